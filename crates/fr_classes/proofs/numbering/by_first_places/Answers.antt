use Rattle.std.proofs.Common.{rules, arith, ℕ, ◌≡◌, ◌<◌, List, Option, None, length, take, ap, ◌∙◌, MatchOption, set, Some, get_or}
use Rattle.std.proofs.lemmas.List.{take_more, take_all, length-take-le, length-replicate, length-set}
use Rattle.std.proofs.lemmas.List.Elements.{All-get_or}
use Rattle.fr_classes.proofs.FindLaws.{NamesIn-none, NamesIn-more, NamesIn-count, IsNumbering-from_names}
use Rattle.fr_classes.proofs.numbering.by_first_places.Goals as goal

pub loop-key-init : goal.loop-key-init
loop-key-init c =
    let none = c.in_ok-names.ensures.items_if_clones_equal (λ y e. search rules) in
    record {
      named = rw c.in_ok-numbers.ensures.items (NamesIn-none c.args.bound c.in_ok-names.names.items none);
      size = ap length none ∙ length-replicate {A = Option ℕ} c.args.bound None;
    }

pub overflow_cast-count : goal.overflow_cast-count
overflow_cast-count c = omega (arith, NamesIn-count _ _ _ _ c.loop-key.invariant.named, length-take-le c.loop-key.key-index c.args.keys.now (omega arith), c.requires.few)

pub name_of-number-requires : goal.name_of-number-requires
name_of-number-requires c = omega (arith, c.loop-key.invariant.size, All-get_or (λ k. k < c.args.bound) c.args.keys.now c.loop-key.key-index 0 c.loop-key-test.true c.requires.below)

name_size : (names names' : List (Option ℕ)) (key n next : ℕ) → MatchOption (get_or names key None) ((n ≡ next) × (names' ≡ set names key (Some next))) (λ known. (n ≡ known) × (names' ≡ names)) → length names' ≡ length names
name_size names names' key n next x = go (get_or names key None) x
  where
    go : (o : Option ℕ) → MatchOption o ((n ≡ next) × (names' ≡ set names key (Some next))) (λ known. (n ≡ known) × (names' ≡ names)) → length names' ≡ length names
    go None y = ap length y.1 ∙ length-set names key (Some next)
    go (Some k) y = ap length y.1

pub loop-key-preserved : goal.loop-key-preserved
loop-key-preserved c =
    let keys = c.args.keys.now in
    let i = c.loop-key.key-index in
    let below : get_or keys i 0 < length c.loop-key.names.items = omega (arith, c.loop-key.invariant.size, All-get_or (λ k. k < c.args.bound) keys i 0 c.loop-key-test.true c.requires.below) in
    record {
      named = rw (c.in_ok-push.ensures.items, take_more keys i 0 c.loop-key-test.true, c.max-count.ensures) (NamesIn-more (take i keys) c.loop-key.numbers.items c.loop-key.names.items c.name_of-number.new.names.items c.loop-key.count (get_or keys i 0) c.name_of-number.result c.loop-key.invariant.named below c.name_of-number.ensures);
      size = name_size _ _ _ _ _ c.name_of-number.ensures ∙ c.loop-key.invariant.size;
    }

pub returns : goal.returns
returns c = IsNumbering-from_names _ _ c.loop-key.names.items c.loop-key.count (rw (take_all c.loop-key.key-index c.args.keys.now c.loop-key-test.false) at c.loop-key.invariant.named)
