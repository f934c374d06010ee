-- The walk over the section words of names makes a machine whose first rows act as the names.
use Rattle.std.proofs.Common.{ℕ, zero, suc, ◌≡◌, ◌+◌, ◌<◌, ◌≤◌, inl, inr, List, [], ◌∷◌, ◌++◌, length, drop, get_or, refl, sym, subst, ◌∙◌, ap, arith, sub-one}
use Rattle.std.specs.List.{All}
use Rattle.std.proofs.lemmas.List.{get_or_default, get_or_append_left, get_or_push, length_push, get_or-drop, length-drop}
use Rattle.std.proofs.lemmas.List.Elements.{All-from_get_or}
use Rattle.std.proofs.lemmas.Bool.{cases_lt}
use Rattle.fr_model.specs.Words.{IsLetter, IsWord}
use Rattle.fr_model.specs.Permutations.{image}
use Rattle.fr_model.specs.Systems.{Factor, System, product_section}
use Rattle.fr_model.specs.FreeWords.{reduced, section_word, IsSectionWord, IsClosurePassed}
use Rattle.fr_model.specs.Terms.{Name, IsAlike, IsTerm, product_term}
use Rattle.fr_model.specs.Automata.{State, next_state}
use Rattle.fr_model.specs.Classes.{HasMoreThan}
use Rattle.fr_model.specs.Constructions.{IsClosure}
use Rattle.fr_model.proofs.CountLaws.{HasMoreThan-lt, IsClassCount-from_list}
use Rattle.fr_model.proofs.AlikeLaws.{alike_trans}
use Rattle.fr_model.proofs.ConstructionLaws.{closure_alike}
use Rattle.fr_machine.specs.declared.row.Row.{Row}
use Rattle.fr_machine.specs.Rows.{states_of, row_term, IsRow, IsMachine, row_at}
use Rattle.fr_machine.proofs.RowLaws.{IsAutomaton-states_of, length-states_of, state_at_row, next_row}
use Rattle.fr_block.specs.Blocks.{IsBlock, AreNames}
use Rattle.fr_block.specs.Elements.{StandsForNames}
use Rattle.fr_block.specs.Closures.{IsWordOf, AreApart, Extends, AreWords, IsRowFor, IsRowMade, AreNameWords, one_name}

-- the walk so far: words of the names, of which the first have rows
pub record IsBuilt (d : ℕ) (s : System) (first count : ℕ) (words : List (List Factor)) (rows : List Row) : Type 0 where
  pub are : AreWords s words
  pub all : All (IsWordOf d s first count) words
  pub names : (i : ℕ) → i < count → (i < length words) × (get_or words i [] ≡ one_name (first + i))
  pub done : length rows ≤ length words
  pub built : (i : ℕ) → i < length rows → IsRowFor d s words (get_or words i []) (row_at rows i)

pub IsBuilt-start : (d : ℕ) (s : System) (first count : ℕ) (words : List (List Factor)) (rows : List Row) → first + count ≤ length s → length s ≤ 4095 → AreNameWords first count words → rows ≡ [] → IsBuilt d s first count words rows
IsBuilt-start d s first count words rows l m h e = record {
  are = record {
    few = omega (arith, h.size, l, m);
    known = All-from_get_or (AreNames s) words [] (λ i k. subst (AreNames s) (sym (h.at i (omega (arith, h.size, k)))) (one i (omega (arith, h.size, k))));
    short = All-from_get_or (λ fs. length fs ≤ 4096) words [] (λ i k. rw (h.at i (omega (arith, h.size, k))) (omega arith));
  };
  all = All-from_get_or (IsWordOf d s first count) words [] (λ i k. record {
    name = first + i;
    least = omega arith;
    most = omega (arith, h.size, k);
    word = record { at = []; valid = tt; is = h.at i (omega (arith, h.size, k)) };
  });
  names = λ i k. (omega (arith, h.size, k), h.at i k);
  done = rw e (omega arith);
  built = λ i k. absurd (omega (arith, k, ap length e));
}
  where
    one : (i : ℕ) → i < count → AreNames s (one_name (first + i))
    one i k zero z n = omega (arith, l, k)
    one i k (suc j) z n = absurd (omega (arith, n))

row_later : (d : ℕ) (s : System) (ws ws' : List (List Factor)) (fs : List Factor) (r : Row) → Extends ws ws' → IsRowFor d s ws fs r → IsRowFor d s ws' fs r
row_later d s ws ws' fs r x h = record {
  permutes = h.permutes;
  outputs = h.outputs;
  width = h.width;
  nexts = λ y l. let g = h.nexts y l in (omega (arith, g.0, x.0), x.1 (get_or r.next y 0) g.0 ∙ g.1);
  zeros = h.zeros;
}

pub IsBuilt-more : (d : ℕ) (s : System) (first count : ℕ) (ws ws' : List (List Factor)) (rows rows' : List Row) (r : Row) (k : ℕ) → IsBuilt d s first count ws rows → length rows < length ws → k ≡ length rows → IsRowMade d s ws ws' (get_or ws k []) r → rows' ≡ rows ++ r ∷ [] → IsBuilt d s first count ws' rows'
IsBuilt-more d s first count ws ws' rows rows' r k h l n m f =
    let x = m.extends in
    let none : Row = record { perm = []; next = [] } in
    let size : length rows' ≡ length rows + 1 = ap length f ∙ length_push rows r in
    record {
      are = m.are;
      all = m.stay first count (All-get (length rows) l (IsWordOf d s first count) h.all n) h.all;
      names = λ i b. let g = h.names i b in (omega (arith, g.0, x.0), x.1 i g.0 ∙ g.1);
      done = omega (arith, size, l, x.0);
      built = λ i b. elim (cases_lt i (length rows)) [
        | inl t ↦
            let same : row_at rows' i ≡ row_at rows i = ap (λ xs. get_or xs i none) f ∙ get_or_append_left rows (r ∷ []) none i t in
            rw (same, x.1 i (omega (arith, t, l))) (row_later d s ws ws' (get_or ws i []) (row_at rows i) x (h.built i t))
        | inr t ↦
            let at : length rows ≡ i = omega (arith, size, t, b) in
            let same : row_at rows' i ≡ r = ap (λ xs. get_or xs i none) f ∙ get_or_push rows r none i at in
            let there : k ≡ i = n ∙ at in
            rw (same, x.1 i (omega (arith, at, l)), ← there) m.row
      ];
    }
  where
    All-get : (j : ℕ) → j < length ws → (P : List Factor → Type 0) → All P ws → k ≡ j → P (get_or ws k [])
    All-get j b P all e = all k [] (omega (arith, b, e))

module _ (d : ℕ) (s : System) (first count : ℕ) (words : List (List Factor)) (rows : List Row) (b : IsBlock d s) (some : 0 < count) (inside : first + count ≤ length s) (h : IsBuilt d s first count words rows) (whole : length words ≤ length rows) (apart : AreApart words) where
  size : length rows ≡ length words
  size = omega (arith, h.done, whole)

  row_valid : (i : ℕ) → i < length rows → IsRow d (length rows) (row_at rows i)
  row_valid i l =
      let g = h.built i l in
      record {
        permutes = g.permutes;
        width = g.width;
        below = All-from_get_or (λ n. n < length rows) (row_at rows i).next 0 (λ x m. elim (cases_lt x d) [
          | inl t ↦ omega (arith, (g.nexts x t).0, size)
          | inr t ↦ omega (arith, g.zeros x t (omega (arith, m, g.width)), l)
        ]);
        zeros = All-from_get_or (λ n. n ≡ 0) (drop d (row_at rows i).next) 0 (λ x m. get_or-drop d (row_at rows i).next x 0 ∙ g.zeros (d + x) (omega arith) (omega (arith, m, length-drop d (row_at rows i).next, g.width)));
      }

  pub IsMachine-names : IsMachine d rows
  IsMachine-names = record {
    few = b.few;
    letters = b.letters;
    least = omega (arith, size, (h.names 0 some).0);
    most = omega (arith, size, h.are.few);
    valid = λ i e l. rw (get_or_default rows i e (record { perm = []; next = [] }) l) (row_valid i l);
  }

  here : (i : ℕ) (l : i < length rows) → row_at rows i ≡ get_or rows i (row_at rows i)
  here i l = get_or_default rows i _ _ l

  next_word : (i x : ℕ) → i < length rows → IsLetter d x → get_or words (next_state (states_of rows) i x) [] ≡ reduced (product_section s (get_or words i []) x)
  next_word i zero l k = absurd (omega (arith, k.0))
  next_word i (suc x) l k =
      let n = (h.built i l).nexts x (omega (arith, k.1)) in
      let e : get_or (row_at rows i).next x 0 ≡ next_state (states_of rows) i (suc x) = rw sub-one at (next_row d rows IsMachine-names i l (row_at rows i) (here i l) (suc x) k) in
      rw (← e) n.1

  below_word : (i x : ℕ) → i < length rows → IsLetter d x → next_state (states_of rows) i x < length rows
  below_word i zero l k = absurd (omega (arith, k.0))
  below_word i (suc x) l k =
      let n = (h.built i l).nexts x (omega (arith, k.1)) in
      let e : get_or (row_at rows i).next x 0 ≡ next_state (states_of rows) i (suc x) = rw sub-one at (next_row d rows IsMachine-names i l (row_at rows i) (here i l) (suc x) k) in
      rw (← e) (omega (arith, n.0, size))

  IsClosure-names : IsClosure d s words (states_of rows)
  IsClosure-names = record {
    automaton = IsAutomaton-states_of d rows IsMachine-names;
    count = length-states_of rows ∙ size;
    outputs = λ i x l k.
        let m : i < length rows = omega (arith, length-states_of rows, l) in
        ap (λ (q : State). image q.perm x) (state_at_row d rows IsMachine-names i m (row_at rows i) (here i m)) ∙ (h.built i m).outputs x k;
    nexts = λ i x l k. next_word i x (omega (arith, length-states_of rows, l)) k;
  }

  alike_name : (i : ℕ) → i < count → IsAlike (row_term rows i) (Name s (first + i))
  alike_name i l =
      let n = h.names i l in
      let known : IsTerm d (product_term s (get_or words i [])) = rw n.1 ((b.system, omega (arith, inside, l)), tt) in
      alike_trans (rw n.1 at (closure_alike d s words (states_of rows) b.system IsClosure-names i (omega (arith, length-states_of rows, size, n.0)) known)) (record { images = λ w. refl })

  abbrev Stands : List Factor → Type 0
  Stands fs = (i : ℕ) × (i < length words) × (fs ≡ get_or words i [])

  -- each section word of a name is one of the words
  after : (i : ℕ) (v : List ℕ) → i < length words → IsWord d v → Stands (section_word s (get_or words i []) v)
  after i [] l k = (i, l, refl)
  after i (x ∷ v) l k =
      let m : i < length rows = omega (arith, size, l) in
      let n = next_word i x m k.0 in
      let r = after (next_state (states_of rows) i x) v (omega (arith, size, below_word i x m k.0)) k.1 in
      (r.0, r.1, ap (λ fs. section_word s fs v) (sym n) ∙ r.2)

  stands : (i : ℕ) (fs : List Factor) → i < count → IsSectionWord d s (first + i) fs → Stands fs
  stands i fs l w =
      let n = h.names i l in
      let r = after i w.at n.0 w.valid in
      (r.0, r.1, w.is ∙ ap (λ gs. section_word s gs w.at) (sym n.1) ∙ r.2)

  within_name : (i : ℕ) → i < count → IsClosurePassed d s (first + i) → ⊥
  within_name i l (inl many) =
      let more : HasMoreThan Stands (λ f g. f ≡ g) 8192 = record {
        members = many.members;
        more = many.more;
        valid = λ k z m. stands i (get_or many.members k z) l (many.valid k z m);
        apart = many.apart;
      }
      in
      omega (
        arith,
        h.are.few,
        HasMoreThan-lt [] Stands (λ f g. f ≡ g) (λ f g e. sym e) (λ f g k e t. e ∙ t) 8192 (length words) more (IsClassCount-from_list Stands (λ f g. f ≡ g) words (record {
          valid = λ k z m. (k, m, get_or_default words k z [] m);
          apart = λ k j z m n same. let c : k ≡ j = apart k j (omega (arith, m, n)) n (get_or_default words k [] z (omega (arith, m, n)) ∙ same ∙ get_or_default words j z [] n) in omega (arith, c, m);
          covers = λ f w. (w.0, w.1, w.2 ∙ get_or_default words w.0 [] f w.1);
        })),
      )
  within_name i l (inr long) =
      let r = stands i long.0 l long.1.word in
      omega (arith, long.1.long, h.are.short r.0 [] r.1, ap length r.2)

  pub StandsForNames-walk : StandsForNames d s first count rows
  StandsForNames-walk = record {
    enough = λ i l. omega (arith, size, (h.names i l).0);
    alike = alike_name;
    within = λ i l. within_name i l;
  }
