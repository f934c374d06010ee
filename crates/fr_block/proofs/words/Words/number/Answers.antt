use Rattle.std.proofs.Common.{List, length, map, sym, subst, ap, arith}
use Rattle.fr_block.specs.declared.block.Factor.{Factor}
use Rattle.fr_block.specs.Blocks.{product_of}
use Rattle.fr_block.specs.Closures.{IsPassed, IsNumbered}
use Rattle.fr_block.proofs.WordLaws.{AreApart-distinct, member_same, member_exact, word_found, word_numbered, word_passed}
use Rattle.fr_block.proofs.words.Words.number.Goals as goal

pub invariant_of-self-then-len-gt-WORD_LIMIT : goal.invariant_of-self-then-len-gt-WORD_LIMIT
invariant_of-self-then-len-gt-WORD_LIMIT c = AreApart-distinct _ member_same member_exact (λ k. k.items) c.insert_full.new.self.keys c.in_ok-number.ensures.unique

pub invariant_of-self-2 : goal.invariant_of-self-2
invariant_of-self-2 c = AreApart-distinct _ member_same member_exact (λ k. k.items) c.insert_full.new.self.keys c.in_ok-number.ensures.unique

pub returns-then-len-gt-WORD_LIMIT : goal.returns-then-len-gt-WORD_LIMIT
returns-then-len-gt-WORD_LIMIT c =
    let v = c.in_ok-from_slice.field-0 in
    let P : List Factor → Type 0 = λ ms. IsPassed c.args.self.now (map (λ k. product_of k.items) c.insert_full.new.self.keys) (product_of ms) in
    subst P c.in_ok-from_slice.ensures.items (word_passed _ member_same member_exact (λ k. k.items) c.self.inside.set.keys c.insert_full.new.self.keys c.args.self.now v c.self.view_is c.in_ok-number.ensures.keys c.requires (omega (arith, c.if-len-gt-WORD_LIMIT.true, c.len.ensures.len)) c.in_ok-number.ensures.unique)

pub returns : goal.returns
returns c =
    let v = c.in_ok-from_slice.field-0 in
    let P : List Factor → Type 0 = λ ms. IsNumbered c.args.self.now (map (λ k. product_of k.items) c.insert_full.new.self.keys) (product_of ms) c.in_ok-number.number in
    subst P c.in_ok-from_slice.ensures.items (word_numbered _ member_same member_exact (λ k. k.items) c.self.inside.set.keys c.insert_full.new.self.keys c.args.self.now v c.in_ok-number.number c.self.view_is c.in_ok-number.ensures.keys c.in_ok-number.ensures.within c.in_ok-number.ensures.stored (omega (arith, c.if-len-gt-WORD_LIMIT.false, c.len.ensures.len)) (omega (arith, c.if-word-gt-MEMBER_LIMIT.false, ap length c.in_ok-from_slice.ensures.items)))

pub returns-in-Some : goal.returns-in-Some
returns-in-Some c = word_found _ member_same member_exact (λ k. k.items) c.self.inside.set.keys c.args.self.now c.args.word.now c.in-Some.number c.self.view_is (sym c.in-Some.ensures.index) c.requires (omega (arith, c.if-word-gt-MEMBER_LIMIT.false))
