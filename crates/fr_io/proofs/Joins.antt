-- How reads and writes join.
use Rattle.std.proofs.Common.{◌≡◌, ℕ, ◌+◌, ◌-◌, ◌<◌, ◌≤◌, List, [], ◌++◌, length, take, drop, sym, ◌∙◌, ap, subst, Option, None, Some, IsSome, arith, take-append-drop}
use Rattle.std.proofs.Math.Seq.{take-add}
use Rattle.std.proofs.lemmas.List.{take-take, drop-drop, drop_all, take_at, length-append, length-drop}
use Rattle.std.proofs.KnownBytes.{Appends-kept, Appends-trans, Consumes-kept, Consumes-trans}
use Rattle.std.specs.Io.KnownBytes.{Consumes, Appends, Keeps}
use Rattle.fr_io.specs.Taken.{SameTold, Took, TookFew, TookTooMany, Gave, GavePart}

-- what two reads took, one after the other
pub took_more : (a b c : Option (List ℕ)) (bs cs : List ℕ) → Took a b bs → Consumes b c cs → SameTold b c → Took a c (bs ++ cs)
took_more a b c bs cs took consumes told = record { consumes = Consumes-trans a b c bs cs took.consumes consumes; told = told ∙ took.told }

-- a read that failed took no more
pub took_kept : (a b c : Option (List ℕ)) (bs : List ℕ) → Took a b bs → Keeps b c → SameTold b c → Took a c bs
took_kept a b c bs took keeps told = record { consumes = Consumes-kept a b c bs took.consumes keeps; told = told ∙ took.told }

-- a read that went past the limit
pub took_too_many : (most : ℕ) (a b c : Option (List ℕ)) (bs cs : List ℕ) → Took a b bs → Consumes b c cs → SameTold b c → most < length bs + length cs → TookTooMany most a c
took_too_many most a b c bs cs took consumes told long = record { bytes = bs ++ cs; took = took_more a b c bs cs took consumes told; long = simp length-append long }

-- a read that stayed within it
pub took_few : (most : ℕ) (a b c : Option (List ℕ)) (bs cs : List ℕ) → Took a b bs → Consumes b c cs → SameTold b c → length bs + length cs ≤ most → TookFew most a c
took_few most a b c bs cs took consumes told short = record { bytes = bs ++ cs; took = took_more a b c bs cs took consumes told; short = simp length-append short }

-- where the bytes are told, it is one number of bytes that was taken
pub few_not_many : (most : ℕ) (a b : Option (List ℕ)) → IsSome a → TookFew most a b → TookTooMany most a b → ⊥
few_not_many most None b is few many = absurd (cc)
few_not_many most (Some xs) None is few many = few.took.consumes
few_not_many most (Some xs) (Some ys) is few many =
    omega (arith, few.short, many.long, simp length-append at (ap length few.took.consumes), simp length-append at (ap length many.took.consumes))

-- a write that failed behind n bytes leaves a part
pub gave_part : (a b c : Option (List ℕ)) (bytes : List ℕ) (n : ℕ) → n < length bytes → Gave a b (take n bytes) → Keeps b c → SameTold b c → GavePart a c bytes
gave_part a b c bytes n fits gave keeps told = record {
  front = take n bytes;
  back = drop n bytes;
  all = sym (take-append-drop n bytes);
  missing = simp length-drop (omega arith);
  gave = record { appends = Appends-kept a b c (take n bytes) gave.appends keeps; told = told ∙ gave.told };
}

-- a write of k more bytes behind n bytes
pub gave_more : (a b c : Option (List ℕ)) (bytes : List ℕ) (n k : ℕ) → Gave a b (take n bytes) → Appends b c (take k (take (length bytes - n) (drop n bytes))) → SameTold b c
    → k ≤ length bytes - n → Gave a c (take (n + k) bytes)
gave_more a b c bytes n k gave appends told fits =
    let same : take n bytes ++ take k (take (length bytes - n) (drop n bytes)) ≡ take (n + k) bytes =
    ap (λ (l : List ℕ). take n bytes ++ l) (take-take k (length bytes - n) (drop n bytes) fits) ∙ sym (take-add n k bytes) in
    record {
      appends = subst (λ (l : List ℕ). Appends a c l) same (Appends-trans a b c (take n bytes) (take k (take (length bytes - n) (drop n bytes))) gave.appends appends);
      told = told ∙ gave.told;
    }

-- some bytes of what is left, copied to the front of a buffer
pub copied : (bytes rest : List ℕ) (at n : ℕ) (front : List ℕ) → front ≡ take n (drop at bytes) → length front ≡ n → drop at bytes ≡ take n (front ++ rest) ++ drop (at + n) bytes
copied bytes rest at n front is long =
    sym (take-append-drop n (drop at bytes)) ∙ ap (λ (l : List ℕ). l ++ drop n (drop at bytes)) (sym is ∙ sym (take_at front rest n long)) ∙ ap (λ (l : List ℕ). take n (front ++ rest) ++ l) (drop-drop n at bytes)

-- a copy of no bytes to a buffer with room was made at the end
pub copied_none : (bytes buf : List ℕ) (at n : ℕ) (front : List ℕ) → length front ≡ n → n ≤ length buf → (n ≡ 0 → 0 < length buf → length bytes ≤ at)
    → n ≡ 0 → 0 < length (front ++ drop n buf) → drop (at + n) bytes ≡ []
copied_none bytes buf at n front long room ends none some =
    let wide : 0 < length buf = omega (arith, long, room, none, simp (length-append, length-drop) at some) in
    drop_all (at + n) bytes (omega (arith, none, ends none wide))
