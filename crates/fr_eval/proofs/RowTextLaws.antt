-- The texts of rows and machines, piece by piece.
use Rattle.std.proofs.Common.{ℕ, suc, ◌≡◌, ◌+◌, ◌<◌, ◌≤◌, List, [], ◌∷◌, ◌++◌, ◌-◌, length, take, drop, map, set, get_or, refl, sym, ◌∙◌, ap, subst, arith, append_assoc}
use Rattle.std.specs.Prelude.{codes}
use Rattle.std.specs.Fmt.{decimal}
use Rattle.std.proofs.lemmas.List.{append-nil, drop-set, drop_more, drop_all, length-map, length-take-le, get_or-map, get_or-take, take_all, take_more}
use Rattle.fr_alphabet.specs.Cycles.{cycles_text}
use Rattle.fr_model.specs.Automata.{State}
use Rattle.fr_machine.specs.Machine.{MachineView}
use Rattle.fr_plain.specs.Answers.{line_of, elements_text}
use Rattle.fr_eval.specs.Generators.{automata_of}
use Rattle.fr_machine.specs.declared.row.Row.{Row}
use Rattle.fr_machine.specs.Rows.{IsRow, state_of, states_of}
use Rattle.fr_machine.proofs.RowLaws.{length-states_of}
use Rattle.fr_canon.specs.Texts.{numbers_text, wreath_text, state_line, state_text, states_text, machine_text}
use Rattle.fr_canon.proofs.PrintLaws.{states_text-push}

-- the numbers of the next rows, from 1
abbrev pub numbers_of : Row → List ℕ
numbers_of r = map suc (state_of r).next

module _ (n : ℕ) (r : Row) (h : IsRow (length r.perm) n r) (few : length r.perm ≤ 8) where
  pub length-numbers_of : length (numbers_of r) ≡ length r.perm
  length-numbers_of = length-map (state_of r).next suc ∙ length-take-le (length r.perm) r.next (omega (arith, few, h.width))

  pub number_at : (x : ℕ) → x < length r.perm → get_or r.next x 0 + 1 ≡ get_or (numbers_of r) x 0
  number_at x l =
      let inside : x < length (state_of r).next = omega (arith, l, length-take-le (length r.perm) r.next (omega (arith, few, h.width))) in
      omega (arith, get_or-map suc (state_of r).next x 0 0 inside, get_or-take (length r.perm) r.next x 0 l)

-- the last of some numbers, before the bracket that closes them
pub numbers-last : (ns text text' : List ℕ) (x n at start : ℕ) → x < length ns → length ns ≤ x + 1 → n ≡ get_or ns x 0 → drop at text ≡ numbers_text (drop (x + 1) ns) ++ 62 ∷ [] → drop start text' ≡ decimal n ++ drop at text → drop start text' ≡ numbers_text (drop x ns) ++ 62 ∷ []
numbers-last ns text text' x n at start l g e h d =
    let none : drop (x + 1) ns ≡ [] = drop_all (x + 1) ns g in
    let one : drop x ns ≡ n ∷ [] = drop_more ns x 0 l ∙ ap (λ m. m ∷ drop (x + 1) ns) (sym e) ∙ ap (λ t. n ∷ t) none in
    d ∙ ap (λ t. decimal n ++ t) (h ∙ ap (λ t. numbers_text t ++ 62 ∷ []) none) ∙ ap (λ t. numbers_text t ++ 62 ∷ []) (sym one)

-- one that stands before others, with a comma behind it
pub numbers-before : (ns text text1 text' : List ℕ) (x n at start : ℕ) → x + 1 < length ns → n ≡ get_or ns x 0 → 1 ≤ at → at ≤ length text → drop at text ≡ numbers_text (drop (x + 1) ns) ++ 62 ∷ [] → text1 ≡ set text (at - 1) 44 → drop start text' ≡ decimal n ++ drop (at - 1) text1 → drop start text' ≡ numbers_text (drop x ns) ++ 62 ∷ []
numbers-before ns text text1 text' x n at start l e least most h s d =
    let one : at - 1 + 1 ≡ at = omega (arith, least) in
    let comma : drop (at - 1) text1 ≡ 44 ∷ numbers_text (drop (x + 1) ns) ++ 62 ∷ [] = ap (drop (at - 1)) s ∙ drop-set text (at - 1) 44 (omega (arith, least, most)) ∙ ap (λ i. 44 ∷ drop i text) one ∙ ap (λ t. 44 ∷ t) h in
    let rest = drop_more ns (x + 1) 0 l in
    let own : drop x ns ≡ n ∷ drop (x + 1) ns = drop_more ns x 0 (omega (arith, l)) ∙ ap (λ m. m ∷ drop (x + 1) ns) (sym e) in
    d ∙ ap (λ t. decimal n ++ t) comma ∙ joined (drop (x + 1) ns) _ _ rest ∙ ap (λ t. numbers_text t ++ 62 ∷ []) (sym own)
  where
    joined : (ms : List ℕ) (m : ℕ) (more : List ℕ) → ms ≡ m ∷ more → decimal n ++ (44 ∷ numbers_text ms ++ 62 ∷ []) ≡ numbers_text (n ∷ ms) ++ 62 ∷ []
    joined ms m more f =
        let P : List ℕ → Type 0 = λ ks. decimal n ++ (44 ∷ numbers_text ks ++ 62 ∷ []) ≡ numbers_text (n ∷ ks) ++ 62 ∷ [] in
        subst P (sym f) (sym (append_assoc (decimal n) (44 ∷ numbers_text (m ∷ more)) (62 ∷ [])))

-- the numbers with the bracket that opens them
pub opened : (ns text : List ℕ) (at : ℕ) → 1 ≤ at → at ≤ length text → drop at text ≡ numbers_text ns ++ 62 ∷ [] → drop (at - 1) (set text (at - 1) 60) ≡ 60 ∷ numbers_text ns ++ 62 ∷ []
opened ns text at least most h =
    let one : at - 1 + 1 ≡ at = omega (arith, least) in
    drop-set text (at - 1) 60 (omega (arith, least, most)) ∙ ap (λ i. 60 ∷ drop i text) one ∙ ap (λ t. 60 ∷ t) h

-- the pieces of a row
pub wreath_text-pieces : (r : Row) (old o1 o2 : List ℕ) → o1 ≡ old ++ 60 ∷ numbers_text (numbers_of r) ++ 62 ∷ [] → o2 ≡ o1 ++ cycles_text r.perm → o2 ≡ old ++ wreath_text (state_of r)
unfolding wreath_text
wreath_text-pieces r old o1 o2 a b =
    let all : o2 ≡ (old ++ 60 ∷ numbers_text (numbers_of r) ++ 62 ∷ []) ++ cycles_text r.perm = rw (b, a) refl in
    all ∙ simp append_assoc

-- one row more of a machine
pub rows_more : (rows : List Row) (k : ℕ) (z : Row) (old out o1 o2 o3 o4 : List ℕ) → k < length rows → out ≡ old ++ states_text 1 (states_of (take k rows)) → o1 ≡ out ++ decimal (k + 1) → o2 ≡ o1 ++ codes " = " → o3 ≡ o2 ++ wreath_text (state_of (get_or rows k z)) → o4 ≡ o3 ++ 10 ∷ []
    → o4 ≡ old ++ states_text 1 (states_of (take (k + 1) rows))
unfolding state_line
rows_more rows k z old out o1 o2 o3 o4 l e a b c d =
    let q = state_of (get_or rows k z) in
    let before : 1 + length (states_of (take k rows)) ≡ k + 1 = omega (arith, length-states_of (take k rows), length-take-le k rows (omega (arith, l))) in
    let one : o4 ≡ (((out ++ decimal (k + 1)) ++ codes " = ") ++ wreath_text q) ++ 10 ∷ [] = rw (d, c, b, a) refl in
    let line : o4 ≡ out ++ state_text (k + 1) q = one ∙ simp append_assoc in
    let more : states_of (take (k + 1) rows) ≡ states_of (take k rows) ++ q ∷ [] = ap states_of (take_more rows k z l) ∙ map_append state_of (take k rows) (get_or rows k z) in
    line ∙ ap (λ t. t ++ state_text (k + 1) q) e ∙ append_assoc old (states_text 1 (states_of (take k rows))) (state_text (k + 1) q)
    ∙ ap (λ j. old ++ (states_text 1 (states_of (take k rows)) ++ state_text j q)) (sym before) ∙ ap (λ t. old ++ t) (sym (states_text-push 1 (states_of (take k rows)) q))
    ∙ ap (λ qs. old ++ states_text 1 qs) (sym more)
  where
    map_append : {A B : Type 0} (f : A → B) (xs : List A) (y : A) → map f (xs ++ y ∷ []) ≡ map f xs ++ f y ∷ []
    map_append f [] y = refl
    map_append f (x ∷ xs) y = ap (λ l. f x ∷ l) (map_append f xs y)

-- the number of the rows, and all rows
pub machine_text-pieces : (rows : List Row) (old o1 o2 o3 out : List ℕ) (k : ℕ) → length rows ≤ k → o1 ≡ old ++ codes "states " → o2 ≡ o1 ++ decimal (length rows) → o3 ≡ o2 ++ 10 ∷ [] → out ≡ o3 ++ states_text 1 (states_of (take k rows))
    → out ≡ old ++ machine_text (states_of rows)
machine_text-pieces rows old o1 o2 o3 out k l a b c d =
    let all : out ≡ (((old ++ codes "states ") ++ decimal (length (states_of rows))) ++ 10 ∷ []) ++ states_text 1 (states_of rows) = rw (d, c, b, a, take_all k rows l, length-states_of rows) refl in
    all ∙ simp append_assoc

-- one automaton more of a nucleus
elements_text-push : (k : ℕ) (qss : List (List State)) (qs : List State) → elements_text k (qss ++ qs ∷ []) ≡ elements_text k qss ++ (line_of (codes "element " ++ decimal (k + length qss)) ++ machine_text qs)
elements_text-push k [] qs =
    let e : k + 0 ≡ k = omega arith in
    let P : ℕ → Type 0 = λ (j : ℕ). elements_text k (qs ∷ []) ≡ line_of (codes "element " ++ decimal j) ++ machine_text qs in
    subst P (sym e) (append-nil (line_of (codes "element " ++ decimal k) ++ machine_text qs))
elements_text-push k (ps ∷ qss) qs =
    let e : suc k + length qss ≡ k + suc (length qss) = omega arith in
    let head : List ℕ = line_of (codes "element " ++ decimal k) ++ machine_text ps in
    ap (λ t. head ++ t) (elements_text-push (suc k) qss qs ∙ ap (λ j. elements_text (suc k) qss ++ (line_of (codes "element " ++ decimal j) ++ machine_text qs)) e)
    ∙ sym (append_assoc head (elements_text (suc k) qss) (line_of (codes "element " ++ decimal (k + suc (length qss))) ++ machine_text qs))

pub members_more : (ms : List MachineView) (i : ℕ) (z : MachineView) (old out o1 o2 o3 o4 : List ℕ) → i < length ms → out ≡ old ++ elements_text 1 (automata_of (take i ms)) → o1 ≡ out ++ codes "element " → o2 ≡ o1 ++ decimal (i + 1)
    → o3 ≡ o2 ++ 10 ∷ [] → o4 ≡ o3 ++ machine_text (states_of (get_or ms i z).rows) → o4 ≡ old ++ elements_text 1 (automata_of (take (i + 1) ms))
members_more ms i z old out o1 o2 o3 o4 l e a b c d =
    let qs = states_of (get_or ms i z).rows in
    let piece : List ℕ = line_of (codes "element " ++ decimal (i + 1)) ++ machine_text qs in
    let here : 1 + length (automata_of (take i ms)) ≡ i + 1 = omega (arith, length-map (take i ms) (λ (m : MachineView). states_of m.rows), length-take-le i ms (omega (arith, l))) in
    let more : automata_of (take (i + 1) ms) ≡ automata_of (take i ms) ++ qs ∷ [] = ap automata_of (take_more ms i z l) ∙ map_append (λ (m : MachineView). states_of m.rows) (take i ms) (get_or ms i z) in
    let one : o4 ≡ (((out ++ codes "element ") ++ decimal (i + 1)) ++ 10 ∷ []) ++ machine_text qs = rw (d, c, b, a) refl in
    one ∙ joined out (codes "element ") (decimal (i + 1)) (10 ∷ []) (machine_text qs) ∙ ap (λ t. t ++ piece) e ∙ append_assoc old (elements_text 1 (automata_of (take i ms))) piece
    ∙ ap (λ j. old ++ (elements_text 1 (automata_of (take i ms)) ++ (line_of (codes "element " ++ decimal j) ++ machine_text qs))) (sym here)
    ∙ ap (λ t. old ++ t) (sym (elements_text-push 1 (automata_of (take i ms)) qs)) ∙ ap (λ qss. old ++ elements_text 1 qss) (sym more)
  where
    map_append : {A B : Type 0} (f : A → B) (xs : List A) (y : A) → map f (xs ++ y ∷ []) ≡ map f xs ++ f y ∷ []
    map_append f [] y = refl
    map_append f (x ∷ xs) y = ap (λ l. f x ∷ l) (map_append f xs y)

    joined : (o a b c d : List ℕ) → (((o ++ a) ++ b) ++ c) ++ d ≡ o ++ (((a ++ b) ++ c) ++ d)
    joined o a b c d = simp append_assoc
