-- The lines of a text, one after the other.
use Rattle.std.proofs.Common.{ℕ, suc, ◌≡◌, ◌≢◌, ◌+◌, ◌<◌, ◌≤◌, inl, true, false, not, List, [], ◌∷◌, ◌++◌, length, take, map, refl, sym, ◌∙◌, ap, arith, append_assoc}
use Rattle.std.specs.Prelude.{◌==◌, ◌&&◌, codes, filter, flat_map}
use Rattle.std.specs.List.{join_with_byte}
use Rattle.std.specs.Fmt.{decimal}
use Rattle.std.proofs.lemmas.List.{append-nil, length_push, map-append, length-take-le}
use Rattle.std.proofs.lemmas.List.Elements.{All-push, All-take, All-nil}
use Rattle.std.proofs.lemmas.Bool.{ne_eqb}
use Rattle.fr_model.specs.Permutations.{identity_permutation}
use Rattle.fr_model.specs.Automata.{State, IsState}
use Rattle.fr_machine.specs.declared.row.Row.{Row}
use Rattle.fr_machine.specs.Rows.{IsRow, state_of, states_of}
use Rattle.fr_alphabet.specs.Writing.{letter_digit}
use Rattle.fr_alphabet.specs.Cycles.{cycle_of, begins_cycle, cycle_text, cycles_text}
use Rattle.fr_canon.specs.Texts.{numbers_text, state_line, state_text, states_text, count_line, count_text, machine_text}
use Rattle.fr_canon.specs.Readings.{Free, BeginsWith, HasNoCount, HasNoState}
use Rattle.fr_canon.proofs.SplitLaws.{Free-append, Free-decimal, split_once}
use Rattle.fr_canon.proofs.StateLaws.{body, state_line-parts, Free-numbers, small_numbers}
use Rattle.fr_canon.proofs.PrintLaws.{states_text-push}

-- ---- no newline stands in a line
digit_free : (x : ℕ) → Free 10 (letter_digit x ∷ [])
digit_free x = let f : (letter_digit x == 10) ≡ false = ne_eqb (letter_digit x) 10 (λ e. omega (arith, e)) in ap (λ b. not b && true) f

letters_free : (c : List ℕ) → Free 10 (join_with_byte 44 (map (λ x. letter_digit x ∷ []) c))
letters_free [] = refl
letters_free (x ∷ []) = digit_free x
letters_free (x ∷ y ∷ c) = Free-append 10 (letter_digit x ∷ []) (44 ∷ join_with_byte 44 (map (λ z. letter_digit z ∷ []) (y ∷ c))) (digit_free x) (letters_free (y ∷ c))

cycle_free : (c : List ℕ) → Free 10 (cycle_text c)
cycle_free c = Free-append 10 (40 ∷ join_with_byte 44 (map (λ x. letter_digit x ∷ []) c)) (41 ∷ []) (letters_free c) refl

cycles_free : (cs : List (List ℕ)) → Free 10 (flat_map cycle_text cs)
cycles_free [] = refl
cycles_free (c ∷ cs) = Free-append 10 (cycle_text c) (flat_map cycle_text cs) (cycle_free c) (cycles_free cs)

pub Free-count_line : (n : ℕ) → n ≤ 1024 → Free 10 (count_line n)
Free-count_line n l = Free-append 10 (codes "states ") (decimal n) refl (Free-decimal 10 n (inl (omega arith)) (omega arith))

pub Free-state_line : (d n k : ℕ) (q : State) → n ≤ 1024 → k ≤ 1024 → IsState d n q → Free 10 (state_line k q)
Free-state_line d n k q l h s = rw (state_line-parts k q) (Free-append 10 (decimal k) (codes " = <" ++ body q) (Free-decimal 10 k (inl (omega arith)) (omega arith)) (Free-append 10 (codes " = <") (body q) refl
    (Free-append 10 (numbers_text (map suc q.next)) (62 ∷ cycles_text q.perm) (Free-numbers 10 (map suc q.next) (inl (omega arith)) refl (small_numbers n q.next l s.below)) (cycles_free (map (cycle_of q.perm) (filter (begins_cycle q.perm) (identity_permutation (length q.perm))))))))

-- a line with its newline stands in front
pub line_first : (line rest : List ℕ) → (line ++ 10 ∷ []) ++ rest ≡ line ++ 10 ∷ rest
line_first line rest = append_assoc line (10 ∷ []) rest

-- ---- the line of the number of states
pub no_line_no_count : (text : List ℕ) → ((line rest : List ℕ) → text ≢ line ++ 10 ∷ rest) → HasNoCount text
no_line_no_count text none n rest a b e = none (count_line n) rest (e ∙ line_first (count_line n) rest)

pub no_count : (text first lines : List ℕ) → Free 10 first → text ≡ first ++ 10 ∷ lines → ((n : ℕ) → 1 ≤ n → n ≤ 1024 → first ≢ count_line n) → HasNoCount text
no_count text first lines f e none n rest a b g = none n a b (split_once 10 first (count_line n) lines rest f (Free-count_line n b) (sym e ∙ g ∙ line_first (count_line n) rest)).0

pub BeginsWith-start : (d n : ℕ) (text first lines : List ℕ) → 1 ≤ n → n ≤ 1024 → text ≡ first ++ 10 ∷ lines → first ≡ count_line n → BeginsWith d n text [] lines
BeginsWith-start d n text first lines a b e f = record { some = a; few = b; within = omega arith; states = All-nil (IsState d n); written = e ∙ ap (λ t. t ++ 10 ∷ lines) f ∙ sym (line_first (count_line n) lines) }

-- ---- the line of a state
pub no_line_no_state : (d n k : ℕ) (text : List ℕ) → ((line rest : List ℕ) → text ≢ line ++ 10 ∷ rest) → HasNoState d n k text
no_line_no_state d n k text none q rest s e = none (state_line k q) rest (e ∙ line_first (state_line k q) rest)

pub no_state_line : (d n k : ℕ) (text line more : List ℕ) → n ≤ 1024 → k ≤ 1024 → Free 10 line → text ≡ line ++ 10 ∷ more → ((q : State) → IsState d n q → line ≢ state_line k q) → HasNoState d n k text
no_state_line d n k text line more a b f e none q rest s g = none q s (split_once 10 line (state_line k q) more rest f (Free-state_line d n k q a b s) (sym e ∙ g ∙ line_first (state_line k q) rest)).0

pub BeginsWith-more : (d n k : ℕ) (text : List ℕ) (qs : List State) (rest line more : List ℕ) (q : State) → BeginsWith d n text qs rest → length qs < n → k ≡ length qs + 1 → rest ≡ line ++ 10 ∷ more → IsState d n q → line ≡ state_line k q → BeginsWith d n text (qs ++ q ∷ []) more
BeginsWith-more d n k text qs rest line more q h l ke e s f =
    let j : 1 + length qs ≡ k = omega (arith, ke) in
    let step : states_text 1 qs ++ rest ≡ states_text 1 (qs ++ q ∷ []) ++ more =
    ap (λ t. states_text 1 qs ++ t) (e ∙ ap (λ t. t ++ 10 ∷ more) f ∙ sym (line_first (state_line k q) more))
    ∙ sym (append_assoc (states_text 1 qs) (state_text k q) more) ∙ ap (λ t. t ++ more) (ap (λ i. states_text 1 qs ++ state_text i q) (sym j) ∙ sym (states_text-push 1 qs q)) in
    record {
      some = h.some;
      few = h.few;
      within = omega (arith, length_push qs q, l);
      states = All-push (IsState d n) qs q h.states s;
      written = h.written ∙ ap (λ t. count_text n ++ t) step;
    }

-- ---- all lines
pub written_all : (d n : ℕ) (text : List ℕ) (qs : List State) (rest : List ℕ) → BeginsWith d n text qs rest → length qs ≡ n → rest ≡ [] → text ≡ machine_text qs
written_all d n text qs rest h l e = h.written ∙ ap (λ t. count_text n ++ (states_text 1 qs ++ t)) e ∙ ap (λ t. count_text n ++ t) (append-nil (states_text 1 qs)) ∙ ap (λ m. count_text m ++ states_text 1 qs) (sym l)

pub IsState-row : (d n : ℕ) (r : Row) → d ≤ 8 → IsRow d n r → IsState d n (state_of r)
IsState-row d n r l h = record {
  permutes = h.permutes;
  arity = ap (λ m. length (take m r.next)) h.permutes.degree ∙ length-take-le d r.next (omega (arith, h.width, l));
  below = All-take (λ m. m < n) (length r.perm) r.next h.below;
}

pub states_of-push : (rows : List Row) (r : Row) → states_of (rows ++ r ∷ []) ≡ states_of rows ++ state_of r ∷ []
states_of-push rows r = map-append state_of rows (r ∷ [])
