-- What a line does, by its tokens.
use Rattle.std.proofs.Common.{◌≡◌, ℕ, Bool, true, false, List, [], ◌∷◌, refl, ap, sym, ◌∙◌, length}
use Rattle.std.specs.Prelude.{nat_lt}
use Rattle.fr_syntax.specs.Tokens.{Lexeme}
use Rattle.fr_syntax.specs.Lines.{lexemes, code_of, tokens_of}
use Rattle.fr_script.specs.declared.outcome.LineOutcome.{LineOutcome}
use Rattle.fr_script.specs.declared.inner.InnerOutcome.{InnerOutcome}
use Rattle.fr_script.specs.declared.item.Block.{Block}
use Rattle.fr_script.specs.declared.item.LineKind.{LineKind}
use Rattle.fr_script.specs.declared.item.LineKind.TheVariants as k
use Rattle.fr_script.specs.declared.item.Outside.TheVariants as out
use Rattle.fr_script.specs.declared.item.Inside.TheVariants as ins
use Rattle.fr_script.specs.Reading.{ReadsLine}
use Rattle.fr_script.specs.Inner.{ReadsInner}
use Rattle.fr_script.specs.Items.{kind_of, line_kind, is_blank, is_group, is_end, outside_of, ReadsOutside, grown, ended, ReadsInside}

-- a line without a first token has none
pub kind_of-none : (line : List ℕ) → lexemes (tokens_of (code_of line)) ≡ [] → k.Empty ≡ line_kind line
unfolding line_kind
kind_of-none line h = sym (ap kind_of h)

-- the kind by the first token, and by whether it is the only one
pub kind_of-front : (line : List ℕ) (kind : LineKind) (token : Lexeme) (rest : List Lexeme) → lexemes (tokens_of (code_of line)) ≡ token ∷ rest →
    kind ≡ kind_of (token ∷ rest) → kind ≡ line_kind line
unfolding line_kind
kind_of-front line kind token rest h k = k ∙ sym (ap kind_of h)

pub blank_outside : (d : ℕ) (is_first : Bool) (n : ℕ) (line : List ℕ) (kind : LineKind) → kind ≡ line_kind line → is_blank kind line ≡ true →
    ReadsOutside d is_first n line out.Blank
blank_outside d is_first n line kind k h = let b : is_blank (line_kind line) line ≡ true = sym (ap (λ x. is_blank x line) k) ∙ h in rw b refl

pub other_outside : (d : ℕ) (is_first : Bool) (n : ℕ) (line : List ℕ) (kind : LineKind) (outcome : LineOutcome) → kind ≡ line_kind line → is_blank kind line ≡ false →
    ReadsLine d is_first line outcome → ReadsOutside d is_first n line (outside_of n (is_group kind) outcome)
other_outside d is_first n line kind outcome k h r =
    let b : is_blank (line_kind line) line ≡ false = sym (ap (λ x. is_blank x line) k) ∙ h in
    rw b (outcome, r, ap (λ x. outside_of n (is_group x) outcome) k)

pub end_inside : (d : ℕ) (block : Block) (n : ℕ) (line : List ℕ) (kind : LineKind) → kind ≡ line_kind line → is_end kind ≡ true →
    ReadsInside d block n line (ins.Ends (ended block n (nat_lt 4096 (length line))))
end_inside d block n line kind k h = let e : is_end (line_kind line) ≡ true = sym (ap is_end k) ∙ h in rw e refl

pub blank_inside : (d : ℕ) (block : Block) (n : ℕ) (line : List ℕ) (kind : LineKind) → kind ≡ line_kind line → is_end kind ≡ false → is_blank kind line ≡ true →
    ReadsInside d block n line (ins.Goes block)
blank_inside d block n line kind k g h =
    let e : is_end (line_kind line) ≡ false = sym (ap is_end k) ∙ g in
    let b : is_blank (line_kind line) line ≡ true = sym (ap (λ x. is_blank x line) k) ∙ h in
    rw (e, b) refl

pub other_inside : (d : ℕ) (block : Block) (n : ℕ) (line : List ℕ) (kind : LineKind) (outcome : InnerOutcome) → kind ≡ line_kind line → is_end kind ≡ false →
    is_blank kind line ≡ false → ReadsInner d n line outcome → ReadsInside d block n line (ins.Goes (grown block n outcome))
other_inside d block n line kind outcome k g h r =
    let e : is_end (line_kind line) ≡ false = sym (ap is_end k) ∙ g in
    let b : is_blank (line_kind line) line ≡ false = sym (ap (λ x. is_blank x line) k) ∙ h in
    rw (e, b) (outcome, r, refl)
