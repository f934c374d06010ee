use Rattle.std.proofs.Common.{rules, refl, inl, inr, arith, ℕ, Some, ◌≡◌, ◌∙◌, [], ◌∷◌, List, length, ap, sym, subst}
use Rattle.fr_model.specs.Terms.{Term, IsTerm, IsAlike}
use Rattle.fr_model.proofs.AlikeLaws.{alike_refl}
use Rattle.fr_machine.proofs.RowLaws.{IsTerm-row_term}
use Rattle.fr_model.specs.Canonical.{IsCode}
use Rattle.fr_machine.specs.Rows.{row_term}
use Rattle.fr_store.specs.Store.{StandsForTerm, AreHandles, GrowsBy, Keeps}
use Rattle.fr_store.specs.Blocks.{code_at}
use Rattle.fr_store.specs.Entered.{IsEntered}
use Rattle.fr_store.specs.Index.{known_in, IsIndex}
use Rattle.fr_store.proofs.TableLaws.{IsNew-gap}
use Rattle.fr_store.proofs.StoreLaws.{IsKnown-stands}
use Rattle.fr_store.proofs.VecLaws.{AreHandles-index, IsKnown-holds, known_from, IsUnknown-new}
use Rattle.fr_store.specs.Products.{AreProducts}
use Rattle.fr_store.specs.Inverses.{AreInverses, IsIdentity}
use Rattle.fr_store.proofs.ProductLaws.{AreProducts-keeps}
use Rattle.fr_store.proofs.InverseLaws.{AreInverses-keeps, IsIdentity-keeps}
use Rattle.fr_store.proofs.vec_store.VecStoreStore.intern.Goals as goal

-- the only code of a term, at the alphabet of the store
only_code : (d e : ℕ) (t u : Term) (out : List ℕ) → d ≡ e → ((t : Term) (code : List ℕ) → IsAlike u t → IsCode d t code → code ≡ out) → IsAlike u t → (code : List ℕ) → IsCode e t code → code ≡ out
only_code d e t u out same only a code k = let P : ℕ → Type 0 = λ i. IsCode i t code in only t code a (subst P (sym same) k)

pub returns-in-Ok-clause-outcome : goal.returns-in-Ok-clause-outcome
returns-in-Ok-clause-outcome c = λ t valid a.
    let s = c.args.self.now in
    let b = s.blocks in
    let code : ℕ → List ℕ = code_at b.alphabet b.rows.items b.places.items in
    let out = c.canon.new.out in
    let found = c.in-Ok.ensures.found in
    let Q : ℕ → Type 0 = λ d. IsCode d t out in
    let only = only_code c.args.m.now.alphabet b.alphabet t (row_term c.args.m.now.rows 0) out c.requires c.canon.ensures.only a in
    let known = known_from code s.index.handles.items c.in-Ok.node out found.handle found.is in
    record {
      handle = record {
        term = valid;
        code = out;
        is_code = subst Q c.requires (c.canon.ensures.alike t a);
        at = known;
      };
      grows = record { keeps = λ n q k. k; only = λ n q k. inl k };
      claim = inl (refl, λ q k m. m c.in-Ok.node (known ∙ ap (λ (w : List ℕ). Some w) (sym (only q k))));
    }

pub returns-in-Ok-clause-handles : goal.returns-in-Ok-clause-handles
returns-in-Ok-clause-handles c =
    let s = c.args.self.now in
    let b = s.blocks in
    AreHandles-index b.alphabet b.rows.items b.places.items b.are_blocks s.index.handles.items s.index.links.items s.is_index s.whole

pub returns-then-before-asked-clause-outcome : goal.returns-then-before-asked-clause-outcome
returns-then-before-asked-clause-outcome c = λ t valid a.
    let s = c.args.self.now in
    let b = s.blocks in
    let code : ℕ → List ℕ = code_at b.alphabet b.rows.items b.places.items in
    let out = c.canon.new.out in
    let new = IsNew-gap code s.index.handles.items s.index.cells.items s.is_table out c.in_default.field-0 c.in_default.ensures.found in
    let only = only_code c.args.m.now.alphabet b.alphabet t (row_term c.args.m.now.rows 0) out c.requires c.canon.ensures.only a in
    let unknown = IsUnknown-new b.alphabet b.rows.items b.places.items b.are_blocks s.index.handles.items s.index.links.items s.is_index s.whole t out new only in
    let asked : length c.rows-asked.result.now ≡ length c.args.m.now.rows = ap length (c.rows-asked.ensures.value ∙ ap (λ m. m.rows) c.machine.ensures.value) in
    let before : c.len-before.result ≡ length b.rows.items = search rules in
    record {
      asked = asked;
      passes = omega (arith, c.if-before-asked.true);
      within = omega (arith, before, s.fits);
      unknown = unknown;
      missed = λ q k n is. unknown n q is k;
      known = λ n. refl;
      own = refl;
      gave = before;
      seen = omega (arith, before);
    }

pub returns-then-before-asked-clause-handles : goal.returns-then-before-asked-clause-handles
returns-then-before-asked-clause-handles c =
    let s = c.args.self.now in
    let b = s.blocks in
    AreHandles-index b.alphabet b.rows.items b.places.items b.are_blocks s.index.handles.items s.index.links.items s.is_index s.whole

pub returns-clause-outcome : goal.returns-clause-outcome
returns-clause-outcome c = λ t valid a.
    let s = c.args.self.now in
    let b = s.blocks in
    let n = c.enter-node.new.blocks in
    let hs = c.enter-node.new.self.handles.items in
    let code : ℕ → List ℕ = code_at b.alphabet b.rows.items b.places.items in
    let out = c.canon.new.out in
    let new = IsNew-gap code s.index.handles.items s.index.cells.items s.is_table out c.in_default.field-0 c.in_default.ensures.found in
    let only = only_code c.args.m.now.alphabet b.alphabet t (row_term c.args.m.now.rows 0) out c.requires c.canon.ensures.only a in
    let unknown = IsUnknown-new b.alphabet b.rows.items b.places.items b.are_blocks s.index.handles.items s.index.links.items s.is_index s.whole t out new only in
    let asked : length c.rows-asked.result.now ≡ length c.args.m.now.rows = ap length (c.rows-asked.ensures.value ∙ ap (λ m. m.rows) c.machine.ensures.value) in
    let before : c.len-before.result ≡ length b.rows.items = search rules in
    let S : List ℕ → Type 0 = λ old. IsEntered b.alphabet b.rows.items b.places.items old c.args.m.now.rows n.rows.items n.places.items hs c.enter-node.new.self.links.items c.enter-node.new.self.cells.items c.enter-node.result in
    let e = subst S (ap (λ v. v.items) c.make_room.ensures.handles) c.enter-node.ensures.entered in
    let count = e.count in
    let Q : ℕ → Type 0 = λ d. StandsForTerm b.alphabet (known_in (code_at d n.rows.items n.places.items) hs) (record { node = c.enter-node.result }) t in
    let R : ℕ → Type 0 = λ d. GrowsBy b.alphabet (known_in code s.index.handles.items) (known_in (code_at d n.rows.items n.places.items) hs) (t ∷ []) in
    record {
      handle = subst Q (sym c.enter-node.ensures.alphabet) (e.handle t valid a);
      grows = subst R (sym c.enter-node.ensures.alphabet) (e.grows t valid a);
      claim = inr (record {
        own = count;
        rises = omega (arith, count);
        fits = omega (arith, count, asked, before, c.if-before-asked.false);
        unknown = unknown;
        missed = λ q k n is. unknown n q is k;
      });
    }

pub returns-clause-handles : goal.returns-clause-handles
returns-clause-handles c =
    let s = c.args.self.now in
    let b = s.blocks in
    let n = c.enter-node.new.blocks in
    let e = c.enter-node.ensures.entered in
    let P : ℕ → Type 0 = λ d. IsIndex (code_at d n.rows.items n.places.items) (length n.rows.items) c.enter-node.new.self.handles.items c.enter-node.new.self.links.items in
    let Q : ℕ → Type 0 = λ d. AreHandles d (known_in (code_at n.alphabet n.rows.items n.places.items) c.enter-node.new.self.handles.items) in
    subst Q c.enter-node.ensures.alphabet (AreHandles-index n.alphabet n.rows.items n.places.items n.are_blocks c.enter-node.new.self.handles.items c.enter-node.new.self.links.items (subst P (sym c.enter-node.ensures.alphabet) e.index) e.whole)

pub returns-clause-keeps : goal.returns-clause-keeps
returns-clause-keeps c =
    let s = c.args.self.now in
    let b = s.blocks in
    let n = c.enter-node.new.blocks in
    let m = c.args.m.now in
    let t = row_term m.rows 0 in
    let P : ℕ → Type 0 = λ d. IsTerm d t in
    let Q : ℕ → Type 0 = λ d. Keeps (known_in (code_at b.alphabet b.rows.items b.places.items) s.index.handles.items) (known_in (code_at d n.rows.items n.places.items) c.enter-node.new.self.handles.items) in
    let valid = subst P c.requires (IsTerm-row_term m.alphabet m.rows 0 c.machine.ensures.valid.machine c.machine.ensures.valid.machine.least) in
    let R : List ℕ → Type 0 = λ hs. IsEntered b.alphabet b.rows.items b.places.items hs c.args.m.now.rows c.enter-node.new.blocks.rows.items c.enter-node.new.blocks.places.items c.enter-node.new.self.handles.items c.enter-node.new.self.links.items c.enter-node.new.self.cells.items c.enter-node.result in
    let e = subst R (ap (λ v. v.items) c.make_room.ensures.handles) c.enter-node.ensures.entered in
    subst Q (sym c.enter-node.ensures.alphabet) (e.grows t valid (alike_refl t)).keeps

pub returns-in-Ok-clause-known : goal.returns-in-Ok-clause-known
returns-in-Ok-clause-known c =
    let s = c.args.self.now in
    let b = s.blocks in
    let code : ℕ → List ℕ = code_at b.alphabet b.rows.items b.places.items in
    IsKnown-holds code s.index.handles.items (record { node = c.in-Ok.node }) c.in-Ok.ensures.found.handle

pub returns-clause-known : goal.returns-clause-known
returns-clause-known c =
    let s = c.args.self.now in
    let b = s.blocks in
    let n = c.enter-node.new.blocks in
    let hs = c.enter-node.new.self.handles.items in
    let m = c.args.m.now in
    let t = row_term m.rows 0 in
    let P : ℕ → Type 0 = λ d. IsTerm d t in
    let Q : ℕ → Type 0 = λ d. StandsForTerm d (known_in (code_at d n.rows.items n.places.items) hs) (record { node = c.enter-node.result }) t in
    let valid = subst P c.requires (IsTerm-row_term m.alphabet m.rows 0 c.machine.ensures.valid.machine c.machine.ensures.valid.machine.least) in
    let stands = subst Q (sym c.enter-node.ensures.alphabet) (c.enter-node.ensures.entered.handle t valid (alike_refl t)) in
    IsKnown-stands n.alphabet (known_in (code_at n.alphabet n.rows.items n.places.items) hs) (record { node = c.enter-node.result }) t stands

-- what was remembered is still true
pub invariant_of-self-3-clause-are_products : goal.invariant_of-self-3-clause-are_products
invariant_of-self-3-clause-are_products c =
    let s = c.args.self.now in
    let b = s.blocks in
    let n = c.enter-node.new.blocks in
    let m = c.args.m.now in
    let t = row_term m.rows 0 in
    let P : ℕ → Type 0 = λ d. IsTerm d t in
    let old = known_in (code_at b.alphabet b.rows.items b.places.items) s.index.handles.items in
    let new = λ (d : ℕ). known_in (code_at d n.rows.items n.places.items) c.enter-node.new.self.handles.items in
    let Q : ℕ → Type 0 = λ d. AreProducts d (new d) s.products.entries.items in
    let valid = subst P c.requires (IsTerm-row_term m.alphabet m.rows 0 c.machine.ensures.valid.machine c.machine.ensures.valid.machine.least) in
    let R : List ℕ → Type 0 = λ hs. IsEntered b.alphabet b.rows.items b.places.items hs c.args.m.now.rows c.enter-node.new.blocks.rows.items c.enter-node.new.blocks.places.items c.enter-node.new.self.handles.items c.enter-node.new.self.links.items c.enter-node.new.self.cells.items c.enter-node.result in
    let e = subst R (ap (λ v. v.items) c.make_room.ensures.handles) c.enter-node.ensures.entered in
    let keeps = (e.grows t valid (alike_refl t)).keeps in
    subst Q (sym c.enter-node.ensures.alphabet) (AreProducts-keeps b.alphabet old (new b.alphabet) s.products.entries.items keeps s.are_products)

pub invariant_of-self-3-clause-are_inverses : goal.invariant_of-self-3-clause-are_inverses
invariant_of-self-3-clause-are_inverses c =
    let s = c.args.self.now in
    let b = s.blocks in
    let n = c.enter-node.new.blocks in
    let m = c.args.m.now in
    let t = row_term m.rows 0 in
    let P : ℕ → Type 0 = λ d. IsTerm d t in
    let old = known_in (code_at b.alphabet b.rows.items b.places.items) s.index.handles.items in
    let new = λ (d : ℕ). known_in (code_at d n.rows.items n.places.items) c.enter-node.new.self.handles.items in
    let Q : ℕ → Type 0 = λ d. AreInverses d (new d) s.inverses.entries.items in
    let valid = subst P c.requires (IsTerm-row_term m.alphabet m.rows 0 c.machine.ensures.valid.machine c.machine.ensures.valid.machine.least) in
    let R : List ℕ → Type 0 = λ hs. IsEntered b.alphabet b.rows.items b.places.items hs c.args.m.now.rows c.enter-node.new.blocks.rows.items c.enter-node.new.blocks.places.items c.enter-node.new.self.handles.items c.enter-node.new.self.links.items c.enter-node.new.self.cells.items c.enter-node.result in
    let e = subst R (ap (λ v. v.items) c.make_room.ensures.handles) c.enter-node.ensures.entered in
    let keeps = (e.grows t valid (alike_refl t)).keeps in
    subst Q (sym c.enter-node.ensures.alphabet) (AreInverses-keeps b.alphabet old (new b.alphabet) s.inverses.entries.items keeps s.are_inverses)

pub invariant_of-self-3-clause-is_identity : goal.invariant_of-self-3-clause-is_identity
invariant_of-self-3-clause-is_identity c =
    let s = c.args.self.now in
    let b = s.blocks in
    let n = c.enter-node.new.blocks in
    let m = c.args.m.now in
    let t = row_term m.rows 0 in
    let P : ℕ → Type 0 = λ d. IsTerm d t in
    let old = known_in (code_at b.alphabet b.rows.items b.places.items) s.index.handles.items in
    let new = λ (d : ℕ). known_in (code_at d n.rows.items n.places.items) c.enter-node.new.self.handles.items in
    let Q : ℕ → Type 0 = λ d. IsIdentity d (new d) s.identity in
    let valid = subst P c.requires (IsTerm-row_term m.alphabet m.rows 0 c.machine.ensures.valid.machine c.machine.ensures.valid.machine.least) in
    let R : List ℕ → Type 0 = λ hs. IsEntered b.alphabet b.rows.items b.places.items hs c.args.m.now.rows c.enter-node.new.blocks.rows.items c.enter-node.new.blocks.places.items c.enter-node.new.self.handles.items c.enter-node.new.self.links.items c.enter-node.new.self.cells.items c.enter-node.result in
    let e = subst R (ap (λ v. v.items) c.make_room.ensures.handles) c.enter-node.ensures.entered in
    let keeps = (e.grows t valid (alike_refl t)).keeps in
    subst Q (sym c.enter-node.ensures.alphabet) (IsIdentity-keeps b.alphabet old (new b.alphabet) s.identity keeps s.is_identity)
