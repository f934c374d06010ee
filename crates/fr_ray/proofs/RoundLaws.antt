-- The rounds of a period under the rows of a machine, up to the first row that comes again.
use Rattle.std.specs.Prelude.{IfOk}
use Rattle.std.proofs.Common.{Result, Ok, Err, ℕ, ◌≡◌, ◌+◌, ◌*◌, ◌<◌, ◌≤◌, inl, inr, List, [], ◌∷◌, ◌++◌, length, take, drop, get_or, sym, ◌∙◌, ap, arith, append_assoc}
use Rattle.std.proofs.lemmas.Bool.{cases_lt}
use Rattle.std.proofs.lemmas.List.{append-nil, get_or_append_left, length_push}
use Rattle.std.proofs.Math.Seq.{get_or-append_seam}
use Rattle.fr_model.specs.Words.{IsWord}
use Rattle.fr_model.specs.Terms.{Term, act}
use Rattle.fr_model.specs.Automata.{state_after}
use Rattle.fr_model.specs.Rays.{repeated, IsCanonicalRay, IsSameRay, IsRayImage}
use Rattle.fr_model.proofs.TermLaws.{act-append, act-IsWord, IsWord-append}
use Rattle.fr_model.proofs.AutomatonLaws.{section_state, IsTerm-state_term}
use Rattle.fr_model.proofs.LimitLaws.{canonical_ray_once}
use Rattle.fr_model.proofs.GrowthLaws.{IsWord-repeated}
use Rattle.fr_machine.specs.declared.row.Row.{Row}
use Rattle.fr_machine.specs.Rows.{IsMachine, row_term, states_of}
use Rattle.fr_machine.specs.Walks.{WalkView, IsNumbered}
use Rattle.fr_machine.proofs.RowLaws.{IsAutomaton-states_of, length-states_of}
use Rattle.fr_ray.specs.Rays.{RayView, IsLongImage}
use Rattle.fr_ray.specs.declared.fault.RayFault.{RayFault}
use Rattle.fr_ray.specs.Forms.{IsLongRay}
use Rattle.fr_ray.proofs.RayLaws.{repeated-add}
use Rattle.fr_ray.proofs.ImageLaws.{state_after-append, image_cut, start-lt}

rounds_more : (u v : List ℕ) (k : ℕ) → u ++ repeated v (k + 1) ≡ (u ++ repeated v k) ++ v
rounds_more u v k = ap (λ w. u ++ w) (repeated-add v k 1 ∙ ap (λ w. repeated v k ++ w) (append-nil v)) ∙ sym (append_assoc u (repeated v k) v)

-- a number that was given before is that of the same key
pub old_key : (w w' : WalkView) (key limit n : ℕ) → IsNumbered w w' key limit n → n < length w.keys → get_or w.keys n 0 ≡ key
old_key w w' key limit n h l = elim h.keeps [
  | inl e ↦ ap (λ k. get_or k n 0) (sym e) ∙ h.is
  | inr e ↦ sym (get_or_append_left w.keys (key ∷ []) 0 n l) ∙ ap (λ k. get_or k n 0) (sym e) ∙ h.is
]

pub new_key : (w w' : WalkView) (key limit n : ℕ) → IsNumbered w w' key limit n → length w.keys ≤ n → w'.keys ≡ w.keys ++ key ∷ []
new_key w w' key limit n h l = elim h.keeps [
  | inl e ↦ absurd (omega (arith, h.below, ap length e))
  | inr e ↦ e
]

-- the rows before the rounds, the row that comes next, and the letters that were put out
pub record AreRounds (rows : List Row) (u v keys : List ℕ) (row : ℕ) (letters : List ℕ) : Type 0 where
  pub reached : row ≡ state_after (states_of rows) 0 (u ++ repeated v (length keys))
  pub before : (i : ℕ) → i < length keys → get_or keys i 0 ≡ state_after (states_of rows) 0 (u ++ repeated v i)
  pub put_out : letters ≡ act (row_term rows 0) (u ++ repeated v (length keys))

module _ (d : ℕ) (rows : List Row) (m : IsMachine d rows) (u v : List ℕ) (u_word : IsWord d u) (v_word : IsWord d v) where
  rounds_word : (n : ℕ) → IsWord d (u ++ repeated v n)
  rounds_word n = IsWord-append d u (repeated v n) u_word (IsWord-repeated d v n v_word)

  first_row : 0 < length (states_of rows)
  first_row = omega (arith, length-states_of rows, m.least)

  -- the first round begins behind the beginning
  pub AreRounds-none : (row : ℕ) (letters : List ℕ) → row ≡ state_after (states_of rows) 0 u → letters ≡ act (row_term rows 0) u → AreRounds rows u v [] row letters
  AreRounds-none row letters e f = record {
    reached = e ∙ ap (state_after (states_of rows) 0) (sym (append-nil u));
    before = λ i l. absurd (omega arith);
    put_out = f ∙ ap (act (row_term rows 0)) (sym (append-nil u));
  }

  -- one round more
  pub AreRounds-more : (keys : List ℕ) (row : ℕ) (letters : List ℕ) (next : ℕ) (more : List ℕ) → AreRounds rows u v keys row letters → next ≡ state_after (states_of rows) row v → more ≡ letters ++ act (row_term rows row) v
      → AreRounds rows u v (keys ++ row ∷ []) next more
  AreRounds-more keys row letters next more h e f =
      let qs = states_of rows in
      let k = length keys in
      let w = u ++ repeated v k in
      let count : length (keys ++ row ∷ []) ≡ k + 1 = length_push keys row in
      let all : u ++ repeated v (length (keys ++ row ∷ [])) ≡ w ++ v = ap (λ n. u ++ repeated v n) count ∙ rounds_more u v k in
      let section = section_state d qs 0 w (IsAutomaton-states_of d rows m) first_row (rounds_word k) in
      record {
        reached = e ∙ ap (λ s. state_after qs s v) h.reached ∙ sym (state_after-append qs 0 w v) ∙ ap (state_after qs 0) (sym all);
        before = λ i l. elim (cases_lt i k) [
          | inl b ↦ get_or_append_left keys (row ∷ []) 0 i b ∙ h.before i b
          | inr g ↦ let here : i ≡ k = omega (arith, count) in ap (λ j. get_or (keys ++ row ∷ []) j 0) here ∙ get_or-append_seam keys row [] 0 ∙ h.reached ∙ ap (λ j. state_after qs 0 (u ++ repeated v j)) (sym here)
        ];
        put_out = f ∙ ap (λ l. l ++ act (row_term rows row) v) h.put_out ∙ ap (λ s. act (row_term rows 0) w ++ act (row_term rows s) v) h.reached ∙ ap (λ l. act (row_term rows 0) w ++ l) (sym (section.images v)) ∙ sym (act-append (row_term rows 0) w v) ∙ ap (act (row_term rows 0)) (sym all);
      }

  pub letters_word : (keys : List ℕ) (row : ℕ) (letters : List ℕ) → AreRounds rows u v keys row letters → IsWord d letters
  letters_word keys row letters h = rw h.put_out (act-IsWord d (row_term rows 0) (IsTerm-state_term d (states_of rows) 0 (IsAutomaton-states_of d rows m) first_row) (u ++ repeated v (length keys)) (rounds_word (length keys)))

  -- the row of an earlier round comes again
  module _ (some : 0 < length v) (w w' : WalkView) (row n limit : ℕ) (letters : List ℕ) (h : AreRounds rows u v w.keys row letters) (numbered : IsNumbered w w' row limit n) (old : n < length w.keys) (start : ℕ) (place : start ≡ length u + n * length v) where
    again : state_after (states_of rows) 0 (u ++ repeated v n) ≡ state_after (states_of rows) 0 (u ++ repeated v (length w.keys))
    again = sym (h.before n old) ∙ old_key w w' row limit n numbered old ∙ h.reached

    pub rounds_image : IsRayImage (row_term rows 0) u v (take start letters) (drop start letters)
    rounds_image = image_cut d (states_of rows) 0 u v (IsAutomaton-states_of d rows m) first_row u_word v_word some n (length w.keys) old again letters start h.put_out place

    pub rounds_inside : start < length letters
    rounds_inside = start-lt d (states_of rows) 0 u v (IsAutomaton-states_of d rows m) first_row u_word v_word some n (length w.keys) old again letters start h.put_out place

-- an image whose form is long
pub IsLongImage-from : (d : ℕ) (t : Term) (r : RayView) (a b : List ℕ) → IsRayImage t r.before r.period a b → IsLongRay d a b → IsLongImage d t r
IsLongImage-from d t r a b image h = record {
  before = h.before;
  period = h.period;
  canonical = h.canonical;
  image = λ n. sym (h.same n) ∙ image n;
  long = h.long;
}

-- an image of few letters has no other form
pub few_are_no_long_image : (d : ℕ) (t : Term) (r s : RayView) → IsRayImage t r.before r.period s.before s.period → IsCanonicalRay d s.before s.period → length s.before + length s.period ≤ 4096 → ¬ IsLongImage d t r
few_are_no_long_image d t r s image canonical few h =
    let same = canonical_ray_once d s.before s.period h.before h.period canonical h.canonical (λ n. image n ∙ sym (h.image n)) in
    omega (arith, h.long, ap length same.0, ap length same.1)

pub no_long_image : (d : ℕ) (t : Term) (r : RayView) (a b : List ℕ) (o : Result RayView RayFault) → IsRayImage t r.before r.period a b → IfOk o (λ s. IsSameRay a b s.before s.period) → IfOk o (λ s. IsCanonicalRay d s.before s.period)
    → IfOk o (λ s. length s.before + length s.period ≤ 4096) → IfOk o (λ _. ¬ IsLongImage d t r)
no_long_image d t r a b (Ok s) image same canonical few = few_are_no_long_image d t r s (λ n. sym (same n) ∙ image n) canonical few
no_long_image d t r a b (Err e) image same canonical few = tt
