-- The cache: what stays of it over a step, and what a hand may put there.
use Rattle.std.proofs.Common.{◌≡◌, ℕ, List}
use mathlib.Core.Option.{some}
use lib.ListN.{get_elem?}
use Rattle.fr_layout.proofs.Stays.{cached_grows}
use Rattle.fr_layout.specs.Entries.{Grows, IsCached, NamesItself}
use Rattle.fr_layout.specs.Packs.{pack_of}
use Rattle.fr_layout.specs.Places.{link_at}
use Rattle.fr_layout.specs.declared.plan.Block.{Block}
use Rattle.fr_layout.specs.declared.plan.Plan.{Plan}
use Rattle.fr_words.proofs.Knowing.{admits_now, agrees_now}
use Rattle.fr_words.specs.Asks.{MayCache, SawItself}
use Rattle.fr_words.specs.Rule.{Kept}
use Rattle.fr_words.specs.declared.notes.Note.{Note}

pub cached_stays : (p : Plan) (V W : ℕ → ℕ) (views : List Note) → Kept p V views → Grows V W → (x : ℕ) → IsCached p V x → IsCached p W x
cached_stays p V W views kept g x h = cached_grows p V W g (λ r l lo. (kept.links r l lo).0) x h

module _ (p : Plan) (V : ℕ → ℕ) (views : List Note) (kept : Kept p V views) (id : ℕ) (v : Note) (at : get_elem? views id ≡ some v) where
  pub itself_seen : (a : ℕ) (b : Block) → SawItself p v a b → NamesItself p V a b
  itself_seen a b h = (h.0, h.1, h.2, agrees_now p V views kept id v at (link_at p a) (pack_of b a) h.3)

  -- what a hand may put into the cache
  pub caches_now : (x : ℕ) → MayCache p v x → IsCached p V x
  caches_now x h lo = record {
    first = h.first;
    second = h.second;
    third = h.third;
    first_block = h.first_block;
    second_block = h.second_block;
    third_block = h.third_block;
    names = h.names;
    first_named = itself_seen h.first h.first_block h.first_seen;
    second_named = itself_seen h.second h.second_block h.second_seen;
    third_named = itself_seen h.third h.third_block h.third_seen;
    product = h.product V (admits_now p V views kept id v at);
    few = h.few V (admits_now p V views kept id v at);
  }
