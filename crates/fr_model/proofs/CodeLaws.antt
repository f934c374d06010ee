-- Canonical automata: their sizes, and why their codes tell terms apart; separating words.
use Rattle.std.proofs.Common.{ℕ, suc, ◌≡◌, ◌<◌, inl, inr, List, [], ◌∷◌, ◌++◌, length, map, take, drop, get_or, refl, sym, ◌∙◌, ap, arith, append_assoc, Option, Some, None}
use Rattle.std.specs.List.{All}
use Rattle.std.proofs.lemmas.List.{append-nil, take_at, drop_at, length-map, get_or_default}
use Rattle.std.proofs.lemmas.List.Elements.{All-head, All-tail}
use Rattle.fr_model.specs.Words.{IsWord}
use Rattle.fr_model.specs.Terms.{Term, Section, IsTerm, IsAlike}
use Rattle.fr_model.specs.Automata.{State, next_state, state_after, IsState}
use Rattle.fr_model.specs.Classes.{IsSize}
use Rattle.fr_model.specs.Separation.{IsSeparatingWord, IsSeparation}
use Rattle.fr_model.specs.Ranks.{rank}
use Rattle.fr_model.specs.Canonical.{IsLeastWord, IsCanonical, IsCode, code_of}
use Rattle.fr_model.proofs.AlikeLaws.{alike_sym, alike_trans, alike_section, section_section}
use Rattle.fr_model.proofs.AutomatonLaws.{next_state-lt, state_after-lt}
use Rattle.fr_model.proofs.CanonicalLaws.{shortlex_irrefl, shortlex_total, least_words_differ, state_same, at_zero, canonical_same, canonical_alike}
use Rattle.fr_model.proofs.RankLaws.{rank_injective}

-- ---- a canonical automaton has a state for each section
module _ (d : ℕ) (t : Term) (qs : List State) (a : IsCanonical d t qs) where
  -- the section at a word is that at the least word of the state behind it
  section_behind : (v : List ℕ) (k : ℕ) → k < length qs → IsWord d v → IsAlike (Section t (get_or a.words k [] ++ v)) (Section t (get_or a.words (state_after qs k v) []))
  section_behind [] k l w = rw (append-nil) (record { images = λ z. refl })
  section_behind (x ∷ v) k l w =
      let u = get_or a.words k [] in
      let n = next_state qs k x in
      let first : IsAlike (Section t (u ++ x ∷ [])) (Section t (get_or a.words n [])) = a.nexts k x (omega (arith, a.count)) w.0 in
      rw (append_assoc u (x ∷ []) v) at
      (alike_trans (alike_sym (section_section t (u ++ x ∷ []) v))
      (alike_trans (alike_section v first)
      (alike_trans (section_section t (get_or a.words n []) v)
      (section_behind v n (next_state-lt d qs k x a.automaton l) w.1))))

  pub canonical-IsSize : IsSize d t (length qs)
  canonical-IsSize = record {
    members = a.words;
    count = a.count;
    valid = λ i z l. rw (get_or_default a.words i z [] l) (a.least i l).valid;
    apart = λ i j z l h same.
        let i' : i < length a.words = omega arith in
        let same' = rw (get_or_default a.words i z [] i', get_or_default a.words j z [] h) at same in
        let e = least_words_differ d t (get_or a.words i []) (get_or a.words j []) (a.least i i') (a.least j h) same' in
        shortlex_irrefl (get_or a.words j []) (rw e at (a.ordered i j l h));
    covers = λ v w.
        let z = at_zero d t qs a in
        let l : 0 < length qs = omega (arith, a.count, z.0) in
        let k = state_after qs 0 v in
        let below : state_after qs 0 v < length a.words = omega (arith, a.count, state_after-lt d qs 0 v a.automaton l) in
        (k, below, rw (get_or_default a.words k v [] below) (rw (← z.1) at (section_behind v 0 l w)));
  }

-- ---- the code of an automaton over d letters tells its states
map_suc-injective : (xs ys : List ℕ) → map suc xs ≡ map suc ys → xs ≡ ys
map_suc-injective [] [] e = refl
map_suc-injective [] (y ∷ ys) e = cc
map_suc-injective (x ∷ xs) [] e = cc
map_suc-injective (x ∷ xs) (y ∷ ys) e =
    let h : suc x ≡ suc y = cc in
    let t : map suc xs ≡ map suc ys = cc in
    let x' : x ≡ y = omega arith in
    rw (x', map_suc-injective xs ys t) refl

pub code_of-injective : (d m n : ℕ) (ps qs : List State) → All (IsState d m) ps → All (IsState d n) qs → code_of ps ≡ code_of qs → ps ≡ qs
code_of-injective d m n [] [] g h e = refl
code_of-injective d m n [] (q ∷ qs) g h e = cc
code_of-injective d m n (p ∷ ps) [] g h e = cc
code_of-injective d m n (p ∷ ps) (q ∷ qs) g h e =
    let a = All-head (IsState d m) p ps g in
    let b = All-head (IsState d n) q qs h in
    let heads : rank p.perm ≡ rank q.perm = cc in
    let tails : map suc p.next ++ code_of ps ≡ map suc q.next ++ code_of qs = cc in
    let i : length (map suc p.next) ≡ d = length-map p.next suc ∙ a.arity in
    let j : length (map suc q.next) ≡ d = length-map q.next suc ∙ b.arity in
    let nexts : map suc p.next ≡ map suc q.next = sym (take_at (map suc p.next) (code_of ps) d i) ∙ ap (take d) tails ∙ take_at (map suc q.next) (code_of qs) d j in
    let rests : code_of ps ≡ code_of qs = sym (drop_at (map suc p.next) (code_of ps) d i) ∙ ap (drop d) tails ∙ drop_at (map suc q.next) (code_of qs) d j in
    let states : p ≡ q = state_same p q (rank_injective d p.perm q.perm a.permutes b.permutes heads) (map_suc-injective p.next q.next nexts) in
    let others : ps ≡ qs = code_of-injective d m n ps qs (All-tail (IsState d m) p ps g) (All-tail (IsState d n) q qs h) rests in
    rw (states, others) refl

pub code-same : (d : ℕ) (t u : Term) (a b : List ℕ) → IsCode d t a → IsCode d u b → IsAlike t u → a ≡ b
code-same d t u a b x y h = x.written ∙ ap code_of (canonical_same d t u x.states y.states x.canonical y.canonical h) ∙ sym y.written

pub alike_from_code : (d : ℕ) (t u : Term) (a b : List ℕ) → IsTerm d t → IsTerm d u → IsCode d t a → IsCode d u b → a ≡ b → IsAlike t u
alike_from_code d t u a b g h x y e =
    let states : x.states ≡ y.states = code_of-injective d (length x.states) (length y.states) x.states y.states x.canonical.automaton y.canonical.automaton (sym x.written ∙ e ∙ y.written) in
    alike_trans (rw states at (canonical_alike d t g x.states x.canonical)) (alike_sym (canonical_alike d u h y.states y.canonical))

-- ---- separating words
pub separating_word_unlike : (d : ℕ) (t u : Term) (w : List ℕ) → IsSeparatingWord d t u w → IsAlike t u → ⊥
separating_word_unlike d t u w s h = s.differs (h.images w)

pub separating_word_once : (d : ℕ) (t u : Term) (v w : List ℕ) → IsSeparatingWord d t u v → IsSeparatingWord d t u w → v ≡ w
separating_word_once d t u v w a b = elim (shortlex_total v w) [
  | inl e ↦ e
  | inr o ↦ elim o [ inl h ↦ absurd (a.differs (b.least v a.valid h)) | inr h ↦ absurd (b.differs (a.least w b.valid h)) ]
]

pub separation_once : (d : ℕ) (t u : Term) (a b : Option (List ℕ)) → IsSeparation d t u a → IsSeparation d t u b → a ≡ b
separation_once d t u None None x y = refl
separation_once d t u None (Some w) x y = absurd (separating_word_unlike d t u w y x)
separation_once d t u (Some v) None x y = absurd (separating_word_unlike d t u v x y)
separation_once d t u (Some v) (Some w) x y = ap Some (separating_word_once d t u v w x y)

pub separation_alike : (d : ℕ) (t t' u u' : Term) (a : Option (List ℕ)) → IsAlike t t' → IsAlike u u' → IsSeparation d t u a → IsSeparation d t' u' a
separation_alike d t t' u u' None h k s = alike_trans (alike_sym h) (alike_trans s k)
separation_alike d t t' u u' (Some w) h k s = record {
  valid = s.valid;
  differs = λ e. s.differs (h.images w ∙ e ∙ sym (k.images w));
  least = λ v l b. sym (h.images v) ∙ s.least v l b ∙ k.images v;
}

-- terms that act alike have the same canonical automaton, and the same code
least_word_alike : (d : ℕ) (t u : Term) (v : List ℕ) → IsAlike t u → IsLeastWord d t v → IsLeastWord d u v
least_word_alike d t u v h l = record {
  valid = l.valid;
  least = λ w k b same. l.least w k b (alike_trans (alike_section w h) (alike_trans same (alike_sym (alike_section v h))));
}

pub IsCanonical-alike : (d : ℕ) (t u : Term) (qs : List State) → IsAlike t u → IsCanonical d t qs → IsCanonical d u qs
IsCanonical-alike d t u qs h a = record {
  automaton = a.automaton;
  words = a.words;
  count = a.count;
  least = λ k l. least_word_alike d t u (get_or a.words k []) h (a.least k l);
  ordered = a.ordered;
  whole = λ v l. a.whole v (least_word_alike d u t v (alike_sym h) l);
  outputs = λ k x l c. sym ((alike_section (get_or a.words k []) h).images (x ∷ [])) ∙ a.outputs k x l c;
  nexts = λ k x l c. alike_trans (alike_sym (alike_section (get_or a.words k [] ++ x ∷ []) h)) (alike_trans (a.nexts k x l c) (alike_section (get_or a.words (next_state qs k x) []) h));
}

pub IsCode-alike : (d : ℕ) (t u : Term) (a : List ℕ) → IsAlike t u → IsCode d t a → IsCode d u a
IsCode-alike d t u a h c = record { states = c.states; canonical = IsCanonical-alike d t u c.states h c.canonical; written = c.written }
