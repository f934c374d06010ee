-- Lines from the front on.
use Rattle.std.proofs.Common.{◌≡◌, ℕ, suc, ◌+◌, ◌-◌, ◌<◌, ◌≤◌, ◌==◌, Bool, true, false, not, cond, List, [], ◌∷◌, length, take, drop, refl, ap, sym, ◌∙◌, arith, add-one}
use Rattle.std.proofs.lemmas.List.{length-drop, drop_all}
use Rattle.std.proofs.Math.Seq.{take-length}
use Rattle.std.proofs.lemmas.List.Sums.{take_while-cons}
use Rattle.fr_script.specs.Scripts.{lines_of, in_front, first_line}
use Rattle.fr_syntax.proofs.LexerLaws.{take-take_while}

first_line-cons : (c : ℕ) (cs : List ℕ) → first_line (c ∷ cs) ≡ cond (not (c == 10)) (c ∷ first_line cs) []
first_line-cons c cs = take_while-cons (λ x. not (x == 10)) c cs

cut_by : (c : ℕ) (cs : List ℕ) (b : Bool) → (c == 10) ≡ b →
    in_front c (lines_of cs) ≡ (c ∷ first_line cs) ∷ lines_of (drop (suc (length (first_line cs))) cs) →
    lines_of (c ∷ cs) ≡ first_line (c ∷ cs) ∷ lines_of (drop (suc (length (first_line (c ∷ cs)))) (c ∷ cs))
cut_by c cs true h later =
    let f : first_line (c ∷ cs) ≡ [] = first_line-cons c cs ∙ ap (λ b. cond (not b) (c ∷ first_line cs) []) h in
    ap (λ b. cond b ([] ∷ lines_of cs) (in_front c (lines_of cs))) h ∙ sym (ap (λ l. l ∷ lines_of (drop (suc (length l)) (c ∷ cs))) f)
cut_by c cs false h later =
    let f : first_line (c ∷ cs) ≡ c ∷ first_line cs = first_line-cons c cs ∙ ap (λ b. cond (not b) (c ∷ first_line cs) []) h in
    ap (λ b. cond b ([] ∷ lines_of cs) (in_front c (lines_of cs))) h ∙ later ∙ sym (ap (λ l. l ∷ lines_of (drop (suc (length l)) (c ∷ cs))) f)

-- the first line, and those after its byte 10
cut_lines : (c : ℕ) (cs : List ℕ) → lines_of (c ∷ cs) ≡ first_line (c ∷ cs) ∷ lines_of (drop (suc (length (first_line (c ∷ cs)))) (c ∷ cs))
cut_lines c [] = cut_by c [] (c == 10) refl refl
cut_lines c (e ∷ es) = cut_by c (e ∷ es) (c == 10) refl (ap (in_front c) (cut_lines e es))

cut_at : (text : List ℕ) (n : ℕ) → 0 < length text → n ≡ length (first_line text) → lines_of text ≡ take n text ∷ lines_of (drop (n + 1) text)
cut_at [] n some h = absurd (omega (arith, some))
cut_at (c ∷ cs) n some h =
    rw (h, add-one) (cut_lines c cs ∙ sym (ap (λ l. l ∷ lines_of (drop (suc (length (first_line (c ∷ cs)))) (c ∷ cs))) (take-take_while (λ x. not (x == 10)) (c ∷ cs))))

rest_slice : (text : List ℕ) (k : ℕ) → take (length text - k) (drop k text) ≡ drop k text
rest_slice text k = ap (λ m. take m (drop k text)) (sym (length-drop k text)) ∙ take-length (drop k text)

pub cut_inside : (text : List ℕ) (n : ℕ) → 0 < length text → n ≡ length (first_line text) →
    lines_of text ≡ take n text ∷ lines_of (take (length text - (n + 1)) (drop (n + 1) text))
cut_inside text n some h = cut_at text n some h ∙ sym (ap (λ l. take n text ∷ lines_of l) (rest_slice text (n + 1)))

pub cut_last : (text : List ℕ) (n : ℕ) → 0 < length text → n ≡ length (first_line text) → length text ≤ n →
    lines_of text ≡ take n text ∷ lines_of (take (length text - n) (drop n text))
cut_last text n some h past =
    cut_at text n some h
    ∙ ap (λ l. take n text ∷ lines_of l) (drop_all (n + 1) text (omega (arith, past)) ∙ sym (drop_all n text past) ∙ sym (rest_slice text n))
