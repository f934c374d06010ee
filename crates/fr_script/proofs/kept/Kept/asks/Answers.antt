use Rattle.std.proofs.Common.{◌≡◌, Bool, ap, sym, ◌∙◌, subst}
use Rattle.fr_script.specs.declared.item.Body.{Body}
use Rattle.fr_script.specs.Keeping.{body_of, outcome_of, form_body, line_word, word_asks, TellsQuestion}
use Rattle.fr_script.proofs.KeptLaws.{line-tells}
use Rattle.fr_script.proofs.kept.Kept.asks.Goals as goal

pub returns-in-Line : goal.returns-in-Line
returns-in-Line c =
    let line = c.in-Line in
    let kept = body_of line.number (outcome_of line.alphabet line.is_first line.text.items) in
    let answer : word_asks (line_word line.text.items) ≡ c.word_asks.result =
    sym (c.word_asks.ensures ∙ ap word_asks c.line_word.ensures ∙ ap (λ l. word_asks (line_word l)) c.deref.ensures.value) in
    let body : kept ≡ c.args.self.now = ap form_body (sym line.is) ∙ c.self.view_is in
    subst (λ (x : Body). TellsQuestion x c.word_asks.result) body
    (subst (λ (a : Bool). TellsQuestion kept a) answer (line-tells line.alphabet line.number line.is_first line.text.items))
