-- The rows of two machines, one of those that act alike; and the sections of generators among them.
use Rattle.std.proofs.Common.{ℕ, ◌≡◌, ◌+◌, ◌-◌, ◌<◌, ◌≤◌, inl, inr, List, [], ◌∷◌, length, map, get_or, sym, ◌∙◌, arith}
use Rattle.std.proofs.lemmas.Bool.{cases_lt}
use Rattle.std.proofs.lemmas.List.{length-map, get_or_default}
use Rattle.fr_model.specs.Terms.{Term, One, Inverse, IsAlike}
use Rattle.fr_model.specs.Classes.{HasMoreThan}
use Rattle.fr_model.proofs.AlikeLaws.{alike_sym, alike_trans}
use Rattle.fr_machine.specs.declared.row.Row.{Row}
use Rattle.fr_machine.specs.Rows.{row_term}
use Rattle.fr_classes.specs.Numberings.{IsNumberedFrom}
use Rattle.fr_classes.specs.Classes.{AreClasses, HasMoreClasses}
use Rattle.fr_machine.specs.Minimal.{AreUnlike}
use Rattle.fr_machine.specs.Inverses.{AreInverses}
use Rattle.fr_nucleus.specs.Rows.{HasRow, AreFewRows}
use Rattle.fr_nucleus.specs.Joining.{AreJoined, AreReduced, HasRowOfEither, IsUnion, IsAmong, old, row, inverse, HasAll}
use Rattle.fr_nucleus.proofs.ListLaws.{choice, map_at}

pub HasRow-alike : (rows : List Row) (t u : Term) → IsAlike t u → HasRow rows u → HasRow rows t
HasRow-alike rows t u e h = (h.0, h.1, alike_trans e h.2)

first_class : (of : List ℕ) → 0 < length of → IsNumberedFrom 0 of → get_or of 0 0 ≡ 0
first_class [] l h = absurd (omega arith)
first_class (x ∷ of) l h = omega (arith, h.0)

module _ (ms ns all : List Row) (j : AreJoined ms ns all) where
  pub either : (s : ℕ) → s < length all → HasRowOfEither ms ns (row_term all s)
  either s l = elim (cases_lt s (length ms)) [
    | inl t ↦ inl (s, t, j.left s t)
    | inr t ↦
        let i = s - length ms in
        let at : length ms + i ≡ s = omega arith in
        inr (i, omega (arith, j.count, at), rw at at (j.right i (omega (arith, j.count, at))))
  ]

  -- too many rows of both together
  pub more_from : (n : ℕ) → HasMoreClasses all n → HasMoreThan (HasRowOfEither ms ns) IsAlike n
  more_from n h = record {
    members = map (row_term all) h.members;
    more = omega (arith, h.more, length-map h.members (row_term all));
    valid = λ i e l.
        let k : i < length h.members = omega (arith, length-map h.members (row_term all)) in
        rw (map_at (row_term all) h.members i 0 e k) (either (get_or h.members i 0) (h.valid i 0 k));
    apart = λ i k e a b.
        let r : k < length h.members = omega (arith, b, length-map h.members (row_term all)) in
        rw (map_at (row_term all) h.members i 0 e (omega arith), map_at (row_term all) h.members k 0 e r) (h.apart i k 0 a r);
  }

  module _ (of : List ℕ) (others : List Row) (a : AreClasses all of) (r : AreReduced all of others) (fine : AreFewRows ms) (few : ¬ HasMoreClasses all 64) where
    -- two rows of the result that act alike are one
    one_row : (c e : ℕ) → c < length others → e < length others → IsAlike (row_term others c) (row_term others e) → c ≡ e
    one_row c e l k h =
        let s = r.onto c l in
        let t = r.onto e k in
        let x : IsAlike (row_term all s.0) (row_term others c) = rw s.2 at (alike_sym (r.alike s.0 s.1).1) in
        let y : IsAlike (row_term all t.0) (row_term others e) = rw t.2 at (alike_sym (r.alike t.0 t.1).1) in
        sym s.2 ∙ (a.alike s.0 t.0 s.1 t.1).1 (alike_trans x (alike_trans h (alike_sym y))) ∙ t.2

    unlike : AreUnlike others
    unlike c e l k h = let z = one_row c e (omega arith) k h in omega arith

    count : length others ≤ 64
    count = elim (cases_lt 64 (length others)) [
      | inl l ↦
          let xs = choice 0 (λ c s. (s < length all) × (get_or of s 0 ≡ c)) (length others) (λ c k. (let o = r.onto c k in (o.0, (o.1, o.2)))) in
          absurd (few (record {
            members = xs.0;
            more = omega (arith, xs.1);
            valid = λ i e k. rw (get_or_default xs.0 i e 0 k) (xs.2 i (omega (arith, k, xs.1))).0;
            apart = λ i k e b g h.
                let kl : k < length others = omega (arith, g, xs.1) in
                let il : i < length others = omega arith in
                let h' : IsAlike (row_term all (get_or xs.0 i 0)) (row_term all (get_or xs.0 k 0)) = rw (get_or_default xs.0 i e 0 (omega (arith, xs.1)), get_or_default xs.0 k e 0 g) at h in
                let same = (a.alike _ _ (xs.2 i il).0 (xs.2 k kl).0).1 h' in
                omega (arith, same, (xs.2 i il).1, (xs.2 k kl).1);
          }))
      | inr l ↦ omega arith
    ]

    row_of : (s : ℕ) → s < length all → HasRow others (row_term all s)
    row_of s l = let h = r.alike s l in (get_or of s 0, h.0, alike_sym h.1)

    pub IsUnion-from : IsUnion ms ns others
    IsUnion-from = record {
      fine = record {
        some = omega (arith, (r.alike 0 (omega (arith, j.count, fine.some))).0);
        few = count;
        unlike = unlike;
        one =
            let l : 0 < length all = omega (arith, j.count, fine.some) in
            let z : get_or of 0 0 ≡ 0 = first_class of (omega (arith, a.count)) a.first in
            let e : IsAlike (row_term others 0) (row_term all 0) = rw z at (r.alike 0 l).1 in
            alike_trans e (alike_trans (j.left 0 fine.some) fine.one);
      };
      left = λ s l. HasRow-alike others (row_term ms s) (row_term all s) (alike_sym (j.left s l)) (row_of s (omega (arith, j.count)));
      right = λ s l. HasRow-alike others (row_term ns s) (row_term all (length ms + s)) (alike_sym (j.right s l)) (row_of (length ms + s) (omega (arith, j.count)));
      only = λ c l.
          let s = r.onto c l in
          let e : IsAlike (row_term others c) (row_term all s.0) = rw s.2 at (r.alike s.0 s.1).1 in
          elim (either s.0 s.1) [
            | inl h ↦ inl (HasRow-alike ms (row_term others c) (row_term all s.0) e h)
            | inr h ↦ inr (HasRow-alike ns (row_term others c) (row_term all s.0) e h)
          ];
    }

-- ---- a machine and its inverses
pub HasRow-from : (ms ns : List Row) → ((s : ℕ) → s < length ms → HasRow ns (row_term ms s)) → (t : Term) → HasRow ms t → HasRow ns t
HasRow-from ms ns h t a = HasRow-alike ns t (row_term ms a.0) a.2 (h a.0 a.1)

module _ (ms ns inverses both : List Row) (count : length inverses ≡ length ns) (i : AreInverses ns inverses) (j : AreJoined ns inverses both) where
  pub among_either : (t : Term) → HasRowOfEither ms both t → IsAmong ms ns t
  among_either t (inl h) = old h
  among_either t (inr h) = elim (cases_lt h.0 (length ns)) [
    | inl l ↦ row (h.0, l, alike_trans h.2 (j.left h.0 l))
    | inr l ↦
        let s = h.0 - length ns in
        let k : s < length ns = omega (arith, h.1, j.count, count) in
        let at : length ns + s ≡ h.0 = omega arith in
        let e : IsAlike (row_term both h.0) (row_term inverses s) = rw at at (j.right s (omega (arith, k, count))) in
        inverse s k (alike_trans h.2 (alike_trans e (i s k)))
  ]

  pub HasAll-from : (rows : List Row) → IsUnion ms both rows → HasAll ms ns rows
  HasAll-from rows v = record {
    fine = v.fine;
    left = v.left;
    right = λ s l. HasRow-alike rows (row_term ns s) (row_term both s) (alike_sym (j.left s l)) (v.right s (omega (arith, j.count)));
    inverses = λ s l.
        let k : s < length inverses = omega (arith, count) in
        HasRow-alike rows (Inverse (row_term ns s)) (row_term both (length ns + s)) (alike_sym (alike_trans (j.right s k) (i s l))) (v.right (length ns + s) (omega (arith, j.count, k)));
    only = λ s l. among_either (row_term rows s) (v.only s l);
  }

-- more values of one sort are more of a wider one
pub HasMoreThan-wider : (P Q : Term → Type 0) (n : ℕ) → ((t : Term) → P t → Q t) → HasMoreThan P IsAlike n → HasMoreThan Q IsAlike n
HasMoreThan-wider P Q n f h = record { members = h.members; more = h.more; valid = λ i e l. f (get_or h.members i e) (h.valid i e l); apart = h.apart }

-- more values than a number, each alike one of another sort
pub HasMoreThan-alike : (P Q : Term → Type 0) (n : ℕ) → ((t : Term) → P t → (u : Term) × Q u × IsAlike t u) → HasMoreThan P IsAlike n → HasMoreThan Q IsAlike n
HasMoreThan-alike P Q n f h =
    let xs = choice One (λ i u. Q u × IsAlike (get_or h.members i One) u) (length h.members) (λ i l. (let r = f (get_or h.members i One) (h.valid i One l) in (r.0, (r.1, r.2)))) in
    record {
      members = xs.0;
      more = omega (arith, h.more, xs.1);
      valid = λ i e l. rw (get_or_default xs.0 i e One l) (xs.2 i (omega (arith, l, xs.1))).0;
      apart = λ i j e a b s.
          let jl : j < length h.members = omega (arith, b, xs.1) in
          let il : i < length h.members = omega arith in
          let s' : IsAlike (get_or xs.0 i One) (get_or xs.0 j One) = rw (get_or_default xs.0 i e One (omega (arith, xs.1)), get_or_default xs.0 j e One b) at s in
          h.apart i j One a jl (alike_trans (xs.2 i il).1 (alike_trans s' (alike_sym (xs.2 j jl).1)));
    }
