-- What a change of the table of bindings at one name leaves at any name.
use Rattle.std.proofs.Common.{ℕ, ◌≡◌, ◌<◌, ◌+◌, Bool, true, false, if◌then◌else◌, List, [], ◌∷◌, ◌++◌, length, take, get_or, Some, Result, Ok, Err, OnErr, refl, sym, ◌∙◌, ap, subst, arith, append_assoc}
use Rattle.std.specs.Str.{bytes_eq}
use Rattle.std.specs.HashMap.{UpdatesBy}
use Rattle.std.specs.Map.{lookup, IsKeyTest, AreApart, KeepsOthers}
use Rattle.std.specs.Global.{Vec}
use Rattle.std.proofs.lemmas.Cmp.{nat_list_eq_equiv}
use Rattle.std.proofs.lemmas.Slice.Eq.{bytes_eq-Decides}
use Rattle.std.proofs.lemmas.List.{append-nil, take_more, take_at, map_push, length-map, length-take, length_push}
use Rattle.fr_syntax.specs.declared.statement.Recursion.{Recursion}
use Rattle.fr_plain.specs.Blocks.{names_of}
use Rattle.fr_store.specs.declared.handle.Handle.{Handle}
use Rattle.fr_expr.specs.declared.env.Binding.{Binding}
use Rattle.fr_expr.specs.Tables.{Table, items_of, bindings_at, bindings_of, without_last}

truth : (b : Bool) → (P : Type 0) → (b ≡ true → P) → (b ≡ false → P) → P
truth true P f g = f refl
truth false P f g = g refl

apart : (bs cs ks : List ℕ) → bytes_eq bs cs ≡ false → bytes_eq bs ks ≡ true → bytes_eq cs ks ≡ false
apart bs cs ks n y = nat_list_eq_equiv.symm cs ks ∙ sym (nat_list_eq_equiv.congr bs ks cs y) ∙ n

other_entries : {X : Type 0} (test : Vec ℕ → Bool) (old new : List (Vec ℕ × X)) → KeepsOthers (λ x y. bytes_eq x.items y.items) test old new → (other : Vec ℕ → Bool) → IsKeyTest (λ x y. bytes_eq x.items y.items) other → AreApart test other → lookup other new ≡ lookup other old
unfolding KeepsOthers
other_entries test old new h = h

-- the table has these bindings at the name that was changed, and the same at other names
pub changed_at : (name : List ℕ) (old new : Table) (after : Vec Binding) → UpdatesBy (λ x y. bytes_eq x.items y.items) (λ k. bytes_eq name k.items) old new (Some after)
    → (q : List ℕ) → bindings_at new q ≡ (if bytes_eq name q then after.items else bindings_at old q)
changed_at name old new after h q = truth (bytes_eq name q) _
    (λ y. subst (λ (l : List ℕ). bindings_at new l ≡ after.items) ((bytes_eq-Decides name q).0 y) (ap items_of h.1) ∙ sym (ap (λ b. if b then after.items else bindings_at old q) y))
    (λ n. ap items_of (other_entries _ old.entries new.entries h.3 _ (λ x y. nat_list_eq_equiv.congr q x.items y.items) (λ k. apart name q k.items n)) ∙ sym (ap (λ b. if b then after.items else bindings_at old q) n))

-- a binding more at a name
pub pushed_at : (name : List ℕ) (old new : Table) (before : List Binding) (after : Vec Binding) (b : Binding) → UpdatesBy (λ x y. bytes_eq x.items y.items) (λ k. bytes_eq name k.items) old new (Some after)
    → bindings_at old name ≡ before → after.items ≡ before ++ b ∷ [] → (q : List ℕ) → bindings_at new q ≡ bindings_at old q ++ (if bytes_eq name q then b ∷ [] else [])
pushed_at name old new before after b h e f q = changed_at name old new after h q ∙ truth (bytes_eq name q) _
    (λ y. ap (λ c. if c then after.items else bindings_at old q) y ∙ f ∙ ap (λ l. l ++ b ∷ []) (sym e ∙ ap (bindings_at old) ((bytes_eq-Decides name q).0 y)) ∙ sym (ap (λ c. bindings_at old q ++ (if c then b ∷ [] else [])) y))
    (λ n. ap (λ c. if c then after.items else bindings_at old q) n ∙ sym (append-nil (bindings_at old q)) ∙ sym (ap (λ c. bindings_at old q ++ (if c then b ∷ [] else [])) n))

-- the same bindings at a name
pub same_at : (name : List ℕ) (old new : Table) (after : Vec Binding) → UpdatesBy (λ x y. bytes_eq x.items y.items) (λ k. bytes_eq name k.items) old new (Some after)
    → after.items ≡ bindings_at old name → (q : List ℕ) → bindings_at new q ≡ bindings_at old q
same_at name old new after h e q = changed_at name old new after h q ∙ truth (bytes_eq name q) _
    (λ y. ap (λ c. if c then after.items else bindings_at old q) y ∙ e ∙ ap (bindings_at old) ((bytes_eq-Decides name q).0 y))
    (λ n. ap (λ c. if c then after.items else bindings_at old q) n)

-- one binding less at a name
pub popped_at : (name : List ℕ) (old new : Table) (before : List Binding) (after : Vec Binding) → UpdatesBy (λ x y. bytes_eq x.items y.items) (λ k. bytes_eq name k.items) old new (Some after)
    → bindings_at old name ≡ before → after.items ≡ without_last before → (q : List ℕ) → bindings_at new q ≡ (if bytes_eq name q then without_last (bindings_at old q) else bindings_at old q)
popped_at name old new before after h e f q = changed_at name old new after h q ∙ truth (bytes_eq name q) _
    (λ y. ap (λ c. if c then after.items else bindings_at old q) y ∙ f ∙ ap without_last (sym e ∙ ap (bindings_at old) ((bytes_eq-Decides name q).0 y)) ∙ sym (ap (λ c. if c then without_last (bindings_at old q) else bindings_at old q) y))
    (λ n. ap (λ c. if c then after.items else bindings_at old q) n ∙ sym (ap (λ c. if c then without_last (bindings_at old q) else bindings_at old q) n))

cons_if : (b : Bool) (x : Binding) (xs ys zs : List Binding) → xs ≡ ys ++ zs → (if b then x ∷ xs else xs) ≡ (if b then x ∷ ys else ys) ++ zs
cons_if true x xs ys zs e = ap (λ l. x ∷ l) e
cons_if false x xs ys zs e = e

-- a name more is bound behind the others
bindings_of-push : (line : ℕ) (ns : List (List ℕ)) (n : List ℕ) (hs : List Handle) (z : Handle) (q : List ℕ) → length ns < length hs
    → bindings_of line (ns ++ n ∷ []) hs q ≡ bindings_of line ns hs q ++ (if bytes_eq n q then record { line = line; handle = get_or hs (length ns) z } ∷ [] else [])
bindings_of-push line [] n [] z q l = absurd (omega (arith, l))
bindings_of-push line [] n (h ∷ hs) z q l = refl
bindings_of-push line (m ∷ ns) n [] z q l = absurd (omega (arith, l))
bindings_of-push line (m ∷ ns) n (h ∷ hs) z q l =
    cons_if (bytes_eq m q) (record { line = line; handle = h }) (bindings_of line (ns ++ n ∷ []) hs q) (bindings_of line ns hs q) _ (bindings_of-push line ns n hs z q (omega (arith, l)))

-- the names of one line more
names_more : (rs : List Recursion) (k : ℕ) (r : Recursion) → k < length rs → get_or rs k r ≡ r → names_of (take (k + 1) rs) ≡ names_of (take k rs) ++ r.name ∷ []
names_more rs k r l e = ap names_of (take_more rs k r l) ∙ map_push (λ x. x.name) (take k rs) (get_or rs k r) ∙ ap (λ x. names_of (take k rs) ++ x.name ∷ []) e

-- one line more of a block is bound
pub bindings_of-more : (line : ℕ) (rs : List Recursion) (k : ℕ) (r : Recursion) (hs : List Handle) (z : Handle) (q : List ℕ) → k < length rs → length hs ≡ length rs → get_or rs k r ≡ r
    → bindings_of line (names_of (take (k + 1) rs)) hs q ≡ bindings_of line (names_of (take k rs)) hs q ++ (if bytes_eq r.name q then record { line = line; handle = get_or hs k z } ∷ [] else [])
bindings_of-more line rs k r hs z q l same here =
    let long : length (names_of (take k rs)) ≡ k = length-map (take k rs) (λ x. x.name) ∙ length-take k rs ∙ omega arith in
    ap (λ ns. bindings_of line ns hs q) (names_more rs k r l here)
    ∙ bindings_of-push line (names_of (take k rs)) r.name hs z q (omega (arith, l, same, long))
    ∙ ap (λ j. bindings_of line (names_of (take k rs)) hs q ++ (if bytes_eq r.name q then record { line = line; handle = get_or hs j z } ∷ [] else [])) long

without_last-push : (xs : List Binding) (b : Binding) → without_last (xs ++ b ∷ []) ≡ xs
without_last-push xs b =
    ap (λ n. take n (xs ++ b ∷ [])) (let e = length_push xs b in omega (arith, e)) ∙ take_at xs (b ∷ []) (length xs) refl

-- the binding that was pushed is popped
pub popped_back : (test : Bool) (b : Binding) (xs ys zs : List Binding) → zs ≡ xs ++ (ys ++ (if test then b ∷ [] else [])) → (if test then without_last zs else zs) ≡ xs ++ ys
popped_back true b xs ys zs e = ap without_last (e ∙ sym (append_assoc xs ys (b ∷ []))) ∙ without_last-push (xs ++ ys) b
popped_back false b xs ys zs e = e ∙ ap (λ l. xs ++ l) (append-nil ys)

pub on_err : {V E X : Type 0} (r : Result V E) → X → OnErr r X
on_err (Ok v) x = tt
on_err (Err e) x = x
