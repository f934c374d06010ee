-- A walk that takes its keys in order, and the letters of each in order, meets each key by its shortlex least word.
use Rattle.std.proofs.Common.{ℕ, ◌≡◌, ◌≢◌, ◌+◌, ◌<◌, ◌≤◌, ◌⊎◌, inl, inr, List, [], ◌∷◌, ◌++◌, length, get_or, refl, sym, ◌∙◌, ap, subst, arith, append_assoc}
use Rattle.std.proofs.lemmas.List.{get_or_append_left, get_or_push, length_push, append-nil}
use Rattle.std.proofs.lemmas.Bool.{cases_lt}
use Rattle.fr_model.specs.Words.{IsLetter, IsWord}
use Rattle.fr_model.specs.Separation.{IsLexBefore, IsShortlexBefore}
use Rattle.fr_model.proofs.TermLaws.{IsWord-append}
use Rattle.fr_model.proofs.CanonicalLaws.{shortlex_trans}
use Rattle.fr_machine.specs.Walks.{walk_after}
use Rattle.fr_machine.specs.Orders.{UpTo, word_at, Over, IsOrdered}
use Rattle.fr_machine.proofs.WalkLaws.{walk_after-append}

-- one letter more
lex_push : (u v : List ℕ) (x y : ℕ) → IsLexBefore u v → IsLexBefore (u ++ x ∷ []) (v ++ y ∷ [])
lex_push [] v x y h = absurd h
lex_push (a ∷ u) [] x y h = absurd h
lex_push (a ∷ u) (b ∷ v) x y (inl h) = inl h
lex_push (a ∷ u) (b ∷ v) x y (inr h) = inr (h.0, lex_push u v x y h.1)

pub shortlex_push : (u v : List ℕ) (x y : ℕ) → IsShortlexBefore u v → IsShortlexBefore (u ++ x ∷ []) (v ++ y ∷ [])
shortlex_push u v x y (inl h) = inl (omega (arith, length_push u x, length_push v y))
shortlex_push u v x y (inr h) = inr (omega (arith, length_push u x, length_push v y, h.0), lex_push u v x y h.1)

lex_last : (u : List ℕ) (x y : ℕ) → x < y → IsLexBefore (u ++ x ∷ []) (u ++ y ∷ [])
lex_last [] x y h = inl h
lex_last (a ∷ u) x y h = inr (refl, lex_last u x y h)

pub shortlex_last : (u : List ℕ) (x y : ℕ) → x < y → IsShortlexBefore (u ++ x ∷ []) (u ++ y ∷ [])
shortlex_last u x y h = inr (omega (arith, length_push u x, length_push u y), lex_last u x y h)

upto_trans : (u v w : List ℕ) → UpTo u v → UpTo v w → UpTo u w
upto_trans u v w (inl a) (inl b) = inl (a ∙ b)
upto_trans u v w (inl a) (inr b) = let P : List ℕ → Type 0 = λ t. IsShortlexBefore t w in inr (subst P (sym a) b)
upto_trans u v w (inr a) (inl b) = let P : List ℕ → Type 0 = λ t. IsShortlexBefore u t in inr (subst P b a)
upto_trans u v w (inr a) (inr b) = inr (shortlex_trans u v w a b)

upto_push : (u v : List ℕ) (x : ℕ) → UpTo u v → UpTo (u ++ x ∷ []) (v ++ x ∷ [])
upto_push u v x (inl e) = inl (ap (λ t. t ++ x ∷ []) e)
upto_push u v x (inr h) = inr (shortlex_push u v x x h)

nil_before : (u : List ℕ) (x : ℕ) → IsShortlexBefore [] (u ++ x ∷ [])
nil_before u x = inl (omega (arith, length_push u x))

-- each word so far comes before the next one
before_next : (d : ℕ) (step : ℕ → ℕ → ℕ) (start : ℕ) (keys : List ℕ) (words : List (List ℕ)) (j x : ℕ) → IsOrdered d step start keys words j x → j < length keys → (i : ℕ) → i < length keys → IsShortlexBefore (word_at words i) (word_at words j ++ x ∷ [])
before_next d step start keys words j x h l i k = elim (h.made i k) [
  | inl e ↦ let P : List ℕ → Type 0 = λ t. IsShortlexBefore t (word_at words j ++ x ∷ []) in subst P (sym e) (nil_before (word_at words j) x)
  | inr m ↦
      let P : List ℕ → Type 0 = λ t. IsShortlexBefore t (word_at words j ++ x ∷ []) in
      subst P (sym m.3) (elim m.4 [
        | inl a ↦ shortlex_push (word_at words m.0) (word_at words j) m.1 x (h.ascending m.0 j a l)
        | inr a ↦
            let Q : ℕ → Type 0 = λ q. IsShortlexBefore (word_at words q ++ m.1 ∷ []) (word_at words j ++ x ∷ []) in
            subst Q (sym a.0) (shortlex_last (word_at words j) m.1 x a.1)
      ])
]

over_more : (j x i y : ℕ) → Over j x i y → Over j (x + 1) i y
over_more j x i y (inl a) = inl a
over_more j x i y (inr a) = inr (a.0, omega (arith, a.1))

-- the letter leads to a key that was met
pub IsOrdered-known : (d : ℕ) (step : ℕ → ℕ → ℕ) (start : ℕ) (keys : List ℕ) (words : List (List ℕ)) (j x : ℕ) → IsOrdered d step start keys words j x → j < length keys → (n : ℕ) → n < length keys → get_or keys n 0 ≡ step (get_or keys j 0) x → IsOrdered d step start keys words j (x + 1)
IsOrdered-known d step start keys words j x h l n nl ne = record {
  count = h.count;
  some = h.some;
  none = h.none;
  valid = h.valid;
  own = h.own;
  ascending = h.ascending;
  made = λ i k. elim (h.made i k) [ inl e ↦ inl e | inr m ↦ inr (m.0, m.1, m.2, m.3, over_more j x m.0 m.1 m.4) ];
  met = λ i y a b o. elim (cases_lt i j) [
    | inl t ↦ h.met i y a b (inl t)
    | inr t ↦
        let same : i ≡ j = elim o [ inl u ↦ omega arith | inr u ↦ u.0 ] in
        elim (cases_lt y x) [
          | inl u ↦ h.met i y a b (inr (same, u))
          | inr u ↦
              let at : y ≡ x = elim o [ inl v ↦ omega arith | inr v ↦ omega (arith, v.1) ] in
              (n, nl, ne ∙ ap (λ q. step (get_or keys q 0) x) (sym same) ∙ ap (step (get_or keys i 0)) (sym at))
        ]
  ];
  passed = λ i y k a b o c e. elim (cases_lt i j) [
    | inl t ↦ h.passed i y k a b (inl t) c e
    | inr t ↦
        let same : i ≡ j = elim o [ inl u ↦ omega arith | inr u ↦ u.0 ] in
        elim (cases_lt y x) [
          | inl u ↦ h.passed i y k a b (inr (same, u)) c e
          | inr u ↦
              let at : y ≡ x = elim o [ inl v ↦ omega arith | inr v ↦ omega (arith, v.1) ] in
              let P : ℕ → Type 0 = λ q. IsShortlexBefore (word_at words k) (word_at words q ++ y ∷ []) in
              let Q : ℕ → Type 0 = λ q. IsShortlexBefore (word_at words k) (word_at words j ++ q ∷ []) in
              inr (subst P (sym same) (subst Q (sym at) (before_next d step start keys words j x h l k c)))
        ]
  ];
}

-- the turn that was taken last, or one before
over_less : (j x i y : ℕ) → Over j (x + 1) i y → Over j x i y ⊎ ((i ≡ j) × (y ≡ x))
over_less j x i y (inl a) = inl (inl a)
over_less j x i y (inr a) = elim (cases_lt y x) [ inl l ↦ inl (inr (a.0, l)) | inr g ↦ inr (a.0, omega (arith, a.1)) ]

-- the letter leads to a new key
pub IsOrdered-new : (d : ℕ) (step : ℕ → ℕ → ℕ) (start : ℕ) (keys keys' : List ℕ) (words words' : List (List ℕ)) (j x key : ℕ) → IsOrdered d step start keys words j x → j < length keys → IsLetter d x → key ≡ step (get_or keys j 0) x → ((k : ℕ) → k < length keys → get_or keys k 0 ≢ key)
    → keys' ≡ keys ++ key ∷ [] → words' ≡ words ++ (word_at words j ++ x ∷ []) ∷ [] → IsOrdered d step start keys' words' j (x + 1)
IsOrdered-new d step start keys keys' words words' j x key h l letter ke fresh e f =
    let new = word_at words j ++ x ∷ [] in
    let n = length keys in
    let size : length keys' ≡ n + 1 = ap length e ∙ length_push keys key in
    let size' : length words' ≡ length words + 1 = ap length f ∙ length_push words new in
    let key_old : (i : ℕ) → i < n → get_or keys' i 0 ≡ get_or keys i 0 = λ i k. ap (λ xs. get_or xs i 0) e ∙ get_or_append_left keys (key ∷ []) 0 i k in
    let key_new : (i : ℕ) → n ≡ i → get_or keys' i 0 ≡ key = λ i k. ap (λ xs. get_or xs i 0) e ∙ get_or_push keys key 0 i k in
    let word_old : (i : ℕ) → i < n → word_at words' i ≡ word_at words i = λ i k. ap (λ xs. get_or xs i []) f ∙ get_or_append_left words (new ∷ []) [] i (omega (arith, h.count)) in
    let word_new : (i : ℕ) → n ≡ i → word_at words' i ≡ new = λ i k. ap (λ xs. get_or xs i []) f ∙ get_or_push words new [] i (h.count ∙ k) in
    let met : (i y : ℕ) → i < length keys' → IsLetter d y → Over j (x + 1) i y → (k : ℕ) × (k < length keys') × (get_or keys' k 0 ≡ step (get_or keys' i 0) y) = λ i y a b o.
    (let il : i < n = elim o [ inl u ↦ omega arith | inr u ↦ omega (arith, u.0) ] in
    elim (over_less j x i y o) [
      | inl u ↦ let m = h.met i y il b u in (m.0, omega (arith, m.1, size), key_old m.0 m.1 ∙ m.2 ∙ ap (λ q. step q y) (sym (key_old i il)))
      | inr u ↦ (n, omega (arith, size), key_new n refl ∙ ke ∙ ap (λ q. step (get_or keys q 0) x) (sym u.0) ∙ ap (step (get_or keys i 0)) (sym u.1) ∙ ap (λ q. step q y) (sym (key_old i il)))
    ]) in
    record {
      count = omega (arith, size, size', h.count);
      some = omega (arith, size);
      none = word_old 0 h.some ∙ h.none;
      valid = λ i a. elim (cases_lt i n) [
        | inl t ↦ rw (word_old i t) (h.valid i t)
        | inr t ↦ rw (word_new i (omega (arith, size))) (IsWord-append d (word_at words j) (x ∷ []) (h.valid j l) (letter, tt))
      ];
      own = λ i a. elim (cases_lt i n) [
        | inl t ↦ ap (walk_after step start) (word_old i t) ∙ h.own i t ∙ sym (key_old i t)
        | inr t ↦
            let at : n ≡ i = omega (arith, size) in
            ap (walk_after step start) (word_new i at) ∙ walk_after-append step start (word_at words j) (x ∷ []) ∙ ap (λ q. step q x) (h.own j l) ∙ sym ke ∙ sym (key_new i at)
      ];
      ascending = λ i k a b. elim (cases_lt k n) [
        | inl t ↦ rw (word_old i (omega arith), word_old k t) (h.ascending i k a t)
        | inr t ↦ rw (word_old i (omega (arith, size)), word_new k (omega (arith, size))) (before_next d step start keys words j x h l i (omega (arith, size)))
      ];
      made = λ i a. elim (cases_lt i n) [
        | inl t ↦ elim (h.made i t) [
          | inl u ↦ inl (word_old i t ∙ u)
          | inr m ↦ inr (m.0, m.1, omega (arith, m.2, size), word_old i t ∙ m.3 ∙ ap (λ w. w ++ m.1 ∷ []) (sym (word_old m.0 m.2)), over_more j x m.0 m.1 m.4)
        ]
        | inr t ↦ inr (j, x, omega (arith, size), word_new i (omega (arith, size)) ∙ ap (λ w. w ++ x ∷ []) (sym (word_old j l)), inr (refl, omega arith))
      ];
      met = met;
      passed = λ i y k a b o c g.
          let il : i < n = elim o [ inl u ↦ omega arith | inr u ↦ omega (arith, u.0) ] in
          elim (cases_lt k n) [
            | inl t ↦
                let same : get_or keys k 0 ≡ step (get_or keys i 0) y = sym (key_old k t) ∙ g ∙ ap (λ q. step q y) (key_old i il) in
                rw (word_old k t, word_old i il) (elim (over_less j x i y o) [
                  | inl u ↦ h.passed i y k il b u t same
                  | inr u ↦
                      let P : ℕ → Type 0 = λ q. IsShortlexBefore (word_at words k) (word_at words q ++ y ∷ []) in
                      let Q : ℕ → Type 0 = λ q. IsShortlexBefore (word_at words k) (word_at words j ++ q ∷ []) in
                      inr (subst P (sym u.0) (subst Q (sym u.1) (before_next d step start keys words j x h l k t)))
                ])
            | inr t ↦
                let at : n ≡ k = omega (arith, size) in
                elim (over_less j x i y o) [
                  | inl u ↦ let m = h.met i y il b u in absurd (fresh m.0 m.1 (m.2 ∙ ap (λ q. step q y) (sym (key_old i il)) ∙ sym g ∙ key_new k at))
                  | inr u ↦ inl (word_new k at ∙ ap (λ q. word_at words q ++ x ∷ []) (sym u.0) ∙ ap (λ q. word_at words i ++ q ∷ []) (sym u.1) ∙ ap (λ w. w ++ y ∷ []) (sym (word_old i il)))
                ]
          ];
    }

-- all letters of a key had their turn
pub IsOrdered-row : (d : ℕ) (step : ℕ → ℕ → ℕ) (start : ℕ) (keys : List ℕ) (words : List (List ℕ)) (j x : ℕ) → IsOrdered d step start keys words j x → d < x → IsOrdered d step start keys words (j + 1) 1
IsOrdered-row d step start keys words j x h l = record {
  count = h.count;
  some = h.some;
  none = h.none;
  valid = h.valid;
  own = h.own;
  ascending = h.ascending;
  made = λ i k. elim (h.made i k) [ inl e ↦ inl e | inr m ↦ inr (m.0, m.1, m.2, m.3, elim m.4 [ inl a ↦ inl (omega arith) | inr a ↦ inl (omega (arith, a.0)) ]) ];
  met = λ i y a b o. h.met i y a b (elim o [
    | inl u ↦ elim (cases_lt i j) [ inl t ↦ inl t | inr t ↦ inr (omega arith, omega (arith, b.1)) ]
    | inr u ↦ absurd (omega (arith, u.1, b.0))
  ]);
  passed = λ i y k a b o c e. h.passed i y k a b (elim o [
    | inl u ↦ elim (cases_lt i j) [ inl t ↦ inl t | inr t ↦ inr (omega arith, omega (arith, b.1)) ]
    | inr u ↦ absurd (omega (arith, u.1, b.0))
  ]) c e;
}

-- at the end the word of a key is the least that leads to it
pub walk_least : (d : ℕ) (step : ℕ → ℕ → ℕ) (start : ℕ) (keys : List ℕ) (words : List (List ℕ)) (j x : ℕ) → IsOrdered d step start keys words j x → length keys ≤ j → get_or keys 0 0 ≡ start
    → (i : ℕ) (u v : List ℕ) → i < length keys → UpTo (word_at words i) u → walk_after step start u ≡ get_or keys i 0 → IsWord d v → (k : ℕ) × (k < length keys) × (get_or keys k 0 ≡ walk_after step start (u ++ v)) × UpTo (word_at words k) (u ++ v)
walk_least d step start keys words j x h all first i u [] l up e w = let n = append-nil u in (i, l, sym e ∙ ap (walk_after step start) (sym n), rw n up)
walk_least d step start keys words j x h all first i u (y ∷ v) l up e w =
    let c = h.met i y l w.0 (inl (omega arith)) in
    let p = h.passed i y c.0 l w.0 (inl (omega arith)) c.1 c.2 in
    let up' = upto_trans (word_at words c.0) (word_at words i ++ y ∷ []) (u ++ y ∷ []) p (upto_push (word_at words i) u y up) in
    let e' : walk_after step start (u ++ y ∷ []) ≡ get_or keys c.0 0 = walk_after-append step start u (y ∷ []) ∙ ap (λ k. step k y) e ∙ sym c.2 in
    let r = walk_least d step start keys words j x h all first c.0 (u ++ y ∷ []) v c.1 up' e' w.1 in
    let a = append_assoc u (y ∷ []) v in
    (r.0, r.1, r.2 ∙ ap (walk_after step start) a, rw (← a) r.3)
