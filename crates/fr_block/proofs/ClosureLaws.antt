-- The rows of section words make a machine whose first rows act as the names.
use Rattle.std.proofs.Common.{ℕ, suc, ◌≡◌, ◌+◌, ◌<◌, ◌≤◌, ◌⊎◌, inl, inr, List, [], ◌∷◌, ◌++◌, length, get_or, set, replicate, Option, Some, None, refl, sym, subst, ◌∙◌, ap, arith}
use Rattle.std.specs.List.{All}
use Rattle.std.proofs.lemmas.List.{length_push, get_or_push, get_or_append_left, get_or-set_same, get_or-set_other, length-set, get_or_default, get_or-replicate}
use Rattle.std.proofs.lemmas.List.Elements.{All-push}
use Rattle.std.proofs.lemmas.Bool.{cases_lt}
use Rattle.fr_model.specs.Words.{IsLetter}
use Rattle.fr_model.specs.Permutations.{IsPermutation, image}
use Rattle.fr_model.specs.Systems.{Factor, System, product_output, product_section}
use Rattle.fr_machine.specs.declared.row.Row.{Row}
use Rattle.fr_model.specs.FreeWords.{reduced, IsSectionWord}
use Rattle.fr_model.proofs.TermLaws.{IsWord-append}
use Rattle.fr_model.proofs.FreeWordLaws.{section_word-append}
use Rattle.fr_block.specs.Blocks.{AreNames}
use Rattle.fr_block.specs.Closures.{IsWordOf, AreClosuresPassed, IsNumbered, IsPassed, Extends, AreWords, IsRowPart, IsRowMade, IsRowPassed, AreNameWords, one_name}
use Rattle.std.specs.Prelude.{MatchOption}

-- a section of a section word is one
pub IsSectionWord-next : (d : ℕ) (s : System) (n x : ℕ) (fs : List Factor) → IsLetter d x → IsSectionWord d s n fs → IsSectionWord d s n (reduced (product_section s fs x))
IsSectionWord-next d s n x fs l h = record {
  at = h.at ++ x ∷ [];
  valid = IsWord-append d h.at (x ∷ []) h.valid (l, tt);
  is = ap (λ gs. reduced (product_section s gs x)) h.is ∙ sym (section_word-append s (one_name n) h.at x);
}

pub IsWordOf-next : (d : ℕ) (s : System) (first count x : ℕ) (fs : List Factor) → IsLetter d x → IsWordOf d s first count fs → IsWordOf d s first count (reduced (product_section s fs x))
IsWordOf-next d s first count x fs l h = record { name = h.name; least = h.least; most = h.most; word = IsSectionWord-next d s h.name x fs l h.word }

pub Extends-refl : (ws : List (List Factor)) → Extends ws ws
Extends-refl ws = (omega arith, λ i l. refl)

pub Extends-trans : (us vs ws : List (List Factor)) → Extends us vs → Extends vs ws → Extends us ws
Extends-trans us vs ws h k = (omega (arith, h.0, k.0), λ i l. k.1 i (omega (arith, h.0, l)) ∙ h.1 i l)

Extends-kept : (ws ws' : List (List Factor)) (w : List Factor) → (ws' ≡ ws) ⊎ (ws' ≡ ws ++ w ∷ []) → Extends ws ws'
Extends-kept ws ws' w (inl e) = rw e (Extends-refl ws)
Extends-kept ws ws' w (inr e) = rw e (omega (arith, length_push ws w), λ i l. get_or_append_left ws (w ∷ []) [] i l)

kept_all : (P : List Factor → Type 0) (ws ws' : List (List Factor)) (w : List Factor) → (ws' ≡ ws) ⊎ (ws' ≡ ws ++ w ∷ []) → All P ws → P w → All P ws'
kept_all P ws ws' w (inl e) h k = subst (All P) (sym e) h
kept_all P ws ws' w (inr e) h k = subst (All P) (sym e) (All-push P ws w h k)

AreWords-more : (s : System) (ws ws' : List (List Factor)) (w : List Factor) (n : ℕ) → AreWords s ws → AreNames s w → IsNumbered ws ws' w n → AreWords s ws'
AreWords-more s ws ws' w n h k i = record {
  few = i.few;
  known = kept_all (AreNames s) ws ws' w i.keeps h.known k;
  short = kept_all (λ fs. length fs ≤ 4096) ws ws' w i.keeps h.short i.short;
}

abbrev zeros8 : List ℕ
zeros8 = replicate 8 0

-- a row before its first letter
pub IsRowPart-start : (d : ℕ) (s : System) (ws : List (List Factor)) (fs : List Factor) → AreWords s ws → IsRowPart d s ws ws fs zeros8 0
IsRowPart-start d s ws fs h = record {
  are = h;
  extends = Extends-refl ws;
  stay = λ first count k all. all;
  width = refl;
  nexts = λ y l. absurd (omega (arith, l));
  zeros = λ y l m. zero_at y m;
}
  where
    zero_at : (y : ℕ) → y < 8 → get_or zeros8 y 0 ≡ 0
    zero_at y m = get_or-replicate 8 y 0 0 m

-- and behind one more
pub IsRowPart-more : (d : ℕ) (s : System) (ws vs us : List (List Factor)) (fs : List Factor) (next next' : List ℕ) (x n : ℕ) (w : List Factor) → IsRowPart d s ws vs fs next x → x < d → d ≤ 8 → AreNames s w → w ≡ reduced (product_section s fs (suc x)) → IsNumbered vs us w n → next' ≡ set next x n → IsRowPart d s ws us fs next' (x + 1)
IsRowPart-more d s ws vs us fs next next' x n w h l m k e i f =
    let more = Extends-kept vs us w i.keeps in
    record {
      are = AreWords-more s vs us w n h.are k i;
      extends = Extends-trans ws vs us h.extends more;
      stay = λ first count a all. kept_all (IsWordOf d s first count) vs us w i.keeps (h.stay first count a all) (subst (IsWordOf d s first count) (sym e) (IsWordOf-next d s first count (suc x) fs (omega arith, omega (arith, l)) a));
      width = ap length f ∙ length-set next x n ∙ h.width;
      nexts = λ y a. elim (cases_lt y x) [
        | inl b ↦
            let at : get_or next' y 0 ≡ get_or next y 0 = ap (λ v. get_or v y 0) f ∙ get_or-set_other next x y n 0 (λ t. omega (arith, t, b)) in
            let g = h.nexts y b in
            rw at (omega (arith, g.0, more.0), more.1 (get_or next y 0) g.0 ∙ g.1)
        | inr b ↦
            let same : y ≡ x = omega (arith, a, b) in
            let at : get_or next' y 0 ≡ n = ap (λ v. get_or v y 0) f ∙ rw same (get_or-set_same next x n 0 (omega (arith, h.width, l, m))) in
            rw at (i.below, i.is ∙ e ∙ ap (λ z. reduced (product_section s fs (suc z))) (sym same))
      ];
      zeros = λ y a b. ap (λ v. get_or v y 0) f ∙ get_or-set_other next x y n 0 (λ t. omega (arith, t, a)) ∙ h.zeros y (omega (arith, a)) b;
    }

pub IsRowMade-from : (d : ℕ) (s : System) (ws vs : List (List Factor)) (fs : List Factor) (r : Row) (x : ℕ) → IsRowPart d s ws vs fs r.next x → x ≡ d → IsPermutation d r.perm → ((x : ℕ) → image r.perm x ≡ product_output s fs x) → IsRowMade d s ws vs fs r
IsRowMade-from d s ws vs fs r x h e p o = record {
  are = h.are;
  extends = h.extends;
  stay = h.stay;
  row = record {
    permutes = p;
    outputs = λ x l. o x;
    width = h.width;
    nexts = λ y l. h.nexts y (omega (arith, e, l));
    zeros = λ y l m. h.zeros y (omega (arith, e, l)) m;
  };
}

-- a section that passes a limit
pub IsRowPassed-from : (d : ℕ) (s : System) (ws vs us : List (List Factor)) (fs : List Factor) (next : List ℕ) (x : ℕ) (w : List Factor) → IsRowPart d s ws vs fs next x → x < d → w ≡ reduced (product_section s fs (suc x)) → IsPassed vs us w → IsRowPassed d s ws fs
IsRowPassed-from d s ws vs us fs next x w h l e p = λ first count a all.
    let word : IsWordOf d s first count w = subst (IsWordOf d s first count) (sym e) (IsWordOf-next d s first count (suc x) fs (omega arith, omega (arith, l)) a) in
    by first count word (h.stay first count a all) p
  where
    by : (first count : ℕ) → IsWordOf d s first count w → All (IsWordOf d s first count) vs → IsPassed vs us w → AreClosuresPassed d s first count
    by first count word all (inl long) = inr (w, word, long.0)
    by first count word all (inr many) = inl (record {
      members = us;
      more = many.1;
      valid = subst (All (IsWordOf d s first count)) (sym many.0) (All-push (IsWordOf d s first count) vs w all word);
      apart = λ i j z k m same.
          let i' = get_or_default us i z [] (omega (arith, k, m)) in
          let j' = get_or_default us j z [] m in
          let c : i ≡ j = many.2 i j (omega (arith, k, m)) m (sym i' ∙ same ∙ j') in
          absurd (omega (arith, c, k));
    })

-- the words of names alone, one more at a time
head_name : List Factor → ℕ
head_name [] = 0
head_name (f ∷ fs) = f.name

one_name-same : (a b : ℕ) → one_name a ≡ one_name b → a ≡ b
unfolding head_name
one_name-same a b e = ap head_name e

names_pushed : (first k : ℕ) (ws : List (List Factor)) (w : List Factor) → AreNameWords first k ws → w ≡ one_name (first + k) → AreNameWords first (k + 1) (ws ++ w ∷ [])
names_pushed first k ws w h e = record {
  size = length_push ws w ∙ ap (λ n. n + 1) h.size;
  at = λ i l. elim (cases_lt i k) [
    | inl b ↦ get_or_append_left ws (w ∷ []) [] i (omega (arith, b, h.size)) ∙ h.at i b
    | inr b ↦ get_or_push ws w [] i (omega (arith, l, b, h.size)) ∙ e ∙ ap (λ j. one_name (first + j)) (omega (arith, l, b))
  ];
}

pub names_more : (first k : ℕ) (ws ws' : List (List Factor)) (w : List Factor) (o : Option ℕ) → AreNameWords first k ws → k < 8192 → w ≡ one_name (first + k) → MatchOption o (IsPassed ws ws' w) (λ n. IsNumbered ws ws' w n) → AreNameWords first (k + 1) ws'
names_more first k ws ws' w None h l e (inl long) = absurd (omega (arith, long.0, ap length e))
names_more first k ws ws' w None h l e (inr many) = absurd (omega (arith, many.1, ap length many.0, length_push ws w, h.size, l))
names_more first k ws ws' w (Some n) h l e m = by m.keeps
  where
    by : (ws' ≡ ws) ⊎ (ws' ≡ ws ++ w ∷ []) → AreNameWords first (k + 1) ws'
    by (inl same) =
        let b : n < k = omega (arith, m.below, ap length same, h.size) in
        let j : one_name (first + n) ≡ one_name (first + k) = sym (h.at n b) ∙ ap (λ us. get_or us n []) (sym same) ∙ m.is ∙ e in
        absurd (omega (arith, one_name-same (first + n) (first + k) j, b))
    by (inr more) = subst (AreNameWords first (k + 1)) (sym more) (names_pushed first k ws w h e)

-- what the answer says where it is known
pub numbered_is : (ws ws' : List (List Factor)) (w : List Factor) (o : Option ℕ) (n : ℕ) → MatchOption o (IsPassed ws ws' w) (λ k. IsNumbered ws ws' w k) → o ≡ Some n → IsNumbered ws ws' w n
numbered_is ws ws' w o n m e = let P : Option ℕ → Type 0 = λ p. MatchOption p (IsPassed ws ws' w) (λ k. IsNumbered ws ws' w k) in subst P e m

pub passed_is : (ws ws' : List (List Factor)) (w : List Factor) (o : Option ℕ) → MatchOption o (IsPassed ws ws' w) (λ k. IsNumbered ws ws' w k) → o ≡ None → IsPassed ws ws' w
passed_is ws ws' w o m e = let P : Option ℕ → Type 0 = λ p. MatchOption p (IsPassed ws ws' w) (λ k. IsNumbered ws ws' w k) in subst P e m

-- the section of the word of a row
pub section_is : (s : System) (ws vs : List (List Factor)) (k x : ℕ) (v w : List Factor) → Extends ws vs → k < length ws → v ≡ get_or vs k [] → w ≡ reduced (product_section s v (x + 1)) → w ≡ reduced (product_section s (get_or ws k []) (suc x))
section_is s ws vs k x v w h l e f = f ∙ ap (λ fs. reduced (product_section s fs (x + 1))) (e ∙ h.1 k l) ∙ ap (λ y. reduced (product_section s (get_or ws k []) y)) (omega arith)
