use Rattle.std.proofs.Common.{ℕ, ◌≡◌, ◌∙◌, List, length, ap, sym, subst, refl, arith}
use Rattle.fr_model.proofs.AlikeLaws.{alike_sym}
use Rattle.fr_store.specs.Store.{AreHandles}
use Rattle.fr_store.specs.declared.blocks.Blocks.{Blocks}
use Rattle.fr_store.specs.Blocks.{code_at}
use Rattle.fr_store.specs.Coded.{codes_of}
use Rattle.fr_store.specs.Index.{known_in, IsIndex, IsTable}
use Rattle.fr_store.specs.Products.{AreProducts}
use Rattle.fr_store.specs.Inverses.{AreInverses, IsIdentity}
use Rattle.fr_store.proofs.VecLaws.{AreHandles-index, handle_row, own_alike}
use Rattle.fr_store.proofs.vec_store.VecStoreStore.states.Goals as goal

-- the codes of rows that stayed
same_codes : (b n : Blocks) → n.alphabet ≡ b.alphabet → n.rows ≡ b.rows → n.places ≡ b.places → codes_of n ≡ codes_of b
same_codes b n d r p =
    ap (λ d. code_at d n.rows.items n.places.items) d
    ∙ ap (λ rows. code_at b.alphabet rows n.places.items) (ap (λ v. v.items) r)
    ∙ ap (λ places. code_at b.alphabet b.rows.items places) (ap (λ v. v.items) p)

pub states-requires : goal.states-requires
states-requires c =
    let s = c.args.self.now in
    let b = s.blocks in
    handle_row b.alphabet b.rows.items b.places.items b.are_blocks s.index.handles.items s.index.links.items s.is_index s.whole c.args.h c.requires

pub returns-clause-size : goal.returns-clause-size
returns-clause-size c = λ t p.
    let s = c.args.self.now in
    let b = s.blocks in
    c.states.ensures.size t (alike_sym (own_alike b.alphabet b.rows.items b.places.items b.are_blocks s.index.handles.items s.index.links.items s.is_index s.whole c.args.h t p))

pub returns-clause-handles : goal.returns-clause-handles
returns-clause-handles c =
    let s = c.args.self.now in
    let b = s.blocks in
    let k = c.states.ensures in
    let n = c.states.new.self in
    let same = same_codes b n k.alphabet k.rows k.places in
    let P : (ℕ → List ℕ) → Type 0 = λ code. AreHandles b.alphabet (known_in code s.index.handles.items) in
    subst P (sym same) (AreHandles-index b.alphabet b.rows.items b.places.items b.are_blocks s.index.handles.items s.index.links.items s.is_index s.whole)

-- the rows stayed, and so did what is known
pub returns-clause-reads : goal.returns-clause-reads
returns-clause-reads c =
    let s = c.args.self.now in
    let b = s.blocks in
    let k = c.states.ensures in
    let n = c.states.new.self in
    let same = same_codes b n k.alphabet k.rows k.places in
    let count : length n.rows.items ≡ length b.rows.items = ap (λ v. length v.items) k.rows in
    record {
      known = λ i. ap (λ code. known_in code s.index.handles.items i) same;
      own = count;
      continues = record { alphabet = k.alphabet; capacity = refl; seen = omega (arith, count); kin = (k.alphabet, refl) };
    }

pub invariant_of-self-2-clause-is_index : goal.invariant_of-self-2-clause-is_index
invariant_of-self-2-clause-is_index c =
    let s = c.args.self.now in
    let b = s.blocks in
    let k = c.states.ensures in
    let n = c.states.new.self in
    let same = same_codes b n k.alphabet k.rows k.places in
    let count : length n.rows.items ≡ length b.rows.items = ap (λ v. length v.items) k.rows in
    let P : (ℕ → List ℕ) → Type 0 = λ code. IsIndex code (length n.rows.items) s.index.handles.items s.index.links.items in
    let Q : ℕ → Type 0 = λ rows. IsIndex (codes_of b) rows s.index.handles.items s.index.links.items in
    subst P (sym same) (subst Q (sym count) s.is_index)

pub invariant_of-self-2-clause-is_table : goal.invariant_of-self-2-clause-is_table
invariant_of-self-2-clause-is_table c =
    let s = c.args.self.now in
    let b = s.blocks in
    let k = c.states.ensures in
    let n = c.states.new.self in
    let same = same_codes b n k.alphabet k.rows k.places in
    let P : (ℕ → List ℕ) → Type 0 = λ code. IsTable code s.index.handles.items s.index.cells.items in
    subst P (sym same) s.is_table

pub invariant_of-self-2-clause-are_products : goal.invariant_of-self-2-clause-are_products
invariant_of-self-2-clause-are_products c =
    let s = c.args.self.now in
    let b = s.blocks in
    let k = c.states.ensures in
    let n = c.states.new.self in
    let same = same_codes b n k.alphabet k.rows k.places in
    let P : (ℕ → List ℕ) → Type 0 = λ code. AreProducts n.alphabet (known_in code s.index.handles.items) s.products.entries.items in
    let Q : ℕ → Type 0 = λ d. AreProducts d (known_in (codes_of b) s.index.handles.items) s.products.entries.items in
    subst P (sym same) (subst Q (sym k.alphabet) s.are_products)

pub invariant_of-self-2-clause-are_inverses : goal.invariant_of-self-2-clause-are_inverses
invariant_of-self-2-clause-are_inverses c =
    let s = c.args.self.now in
    let b = s.blocks in
    let k = c.states.ensures in
    let n = c.states.new.self in
    let same = same_codes b n k.alphabet k.rows k.places in
    let P : (ℕ → List ℕ) → Type 0 = λ code. AreInverses n.alphabet (known_in code s.index.handles.items) s.inverses.entries.items in
    let Q : ℕ → Type 0 = λ d. AreInverses d (known_in (codes_of b) s.index.handles.items) s.inverses.entries.items in
    subst P (sym same) (subst Q (sym k.alphabet) s.are_inverses)

pub invariant_of-self-2-clause-is_identity : goal.invariant_of-self-2-clause-is_identity
invariant_of-self-2-clause-is_identity c =
    let s = c.args.self.now in
    let b = s.blocks in
    let k = c.states.ensures in
    let n = c.states.new.self in
    let same = same_codes b n k.alphabet k.rows k.places in
    let P : (ℕ → List ℕ) → Type 0 = λ code. IsIdentity n.alphabet (known_in code s.index.handles.items) s.identity in
    let Q : ℕ → Type 0 = λ d. IsIdentity d (known_in (codes_of b) s.index.handles.items) s.identity in
    subst P (sym same) (subst Q (sym k.alphabet) s.is_identity)
