-- A reader that takes a token at a time, and what makes it exact for a grammar.
use Rattle.std.proofs.Common.{◌≡◌, ℕ, suc, List, [], ◌∷◌, ◌++◌, length, take, Option, Some, None, refl, ap, sym, ◌∙◌, append_assoc, append-nil, arith}
use Rattle.std.proofs.lemmas.List.{take_at, length-append}
use Rattle.std.proofs.lemmas.Option.{same_Some}
use Rattle.fr_syntax.specs.Tokens.{Lexeme}
use Rattle.fr_syntax.specs.Faults.{Begins, IsFaultAt}

abbrev pub then_run : {Spot : Type 0} → (Spot → Option Spot) → Option Spot → Option Spot
then_run more None = None
then_run more (Some spot) = more spot

abbrev pub run : {Spot : Type 0} → (Spot → Lexeme → Option Spot) → Spot → List Lexeme → Option Spot
run step spot [] = Some spot
run step spot (token ∷ tokens) = then_run (λ next. run step next tokens) (step spot token)

-- The trees of a grammar, the spots of a reader, and what relates them.
pub record Exact (Tree Spot : Type 0) : Type 0 where
  pub tokens_of : Tree → List Lexeme
  pub start : Spot
  pub step : Spot → Lexeme → Option Spot
  pub finish : Spot → Option Tree
  -- the tokens that were read, and then the rest
  pub spelled : Spot → List Lexeme → List Lexeme
  pub starts : (rest : List Lexeme) → spelled start rest ≡ rest
  pub steps : (spot next : Spot) (token : Lexeme) (rest : List Lexeme) → step spot token ≡ Some next → spelled spot (token ∷ rest) ≡ spelled next rest
  pub finishes : (spot : Spot) (tree : Tree) → finish spot ≡ Some tree → spelled spot [] ≡ tokens_of tree
  -- each tree is read
  pub reads : (tree : Tree) → (spot : Spot) × (run step start (tokens_of tree) ≡ Some spot) × (finish spot ≡ Some tree)
  -- what was read can be completed
  pub completes : (spot : Spot) → (tree : Tree) × (more : List Lexeme) × (spelled spot more ≡ tokens_of tree)

pub data Outcome (Tree : Type 0) : Type 0 where
  Found : Tree → Outcome Tree
  Fault : ℕ → Outcome Tree

abbrev pub at_end : {Tree : Type 0} → ℕ → Option Tree → Outcome Tree
at_end count (Some tree) = Found tree
at_end count None = Fault count

abbrev pub go_on : {Tree Spot : Type 0} → (Spot → Outcome Tree) → ℕ → Option Spot → Outcome Tree
go_on more count (Some spot) = more spot
go_on more count None = Fault count

abbrev pub outcome_from : {Tree Spot : Type 0} → Exact Tree Spot → ℕ → Spot → List Lexeme → Outcome Tree
outcome_from exact count spot [] = at_end count (exact.finish spot)
outcome_from exact count spot (token ∷ tokens) =
    go_on (λ next. outcome_from exact (suc count) next tokens) count (exact.step spot token)

run_append : {Spot : Type 0} (step : Spot → Lexeme → Option Spot) (spot : Spot) (front more : List Lexeme) →
    run step spot (front ++ more) ≡ then_run (λ next. run step next more) (run step spot front)
run_append step spot [] more = refl
run_append step spot (token ∷ front) more = next (step spot token) (λ s. run_append step s front more)
  where
    next : (after : Option _) →
        ((s : _) → run step s (front ++ more) ≡ then_run (λ e. run step e more) (run step s front)) →
        then_run (λ s. run step s (front ++ more)) after ≡ then_run (λ s. run step s more) (then_run (λ s. run step s front) after)
    next None later = refl
    next (Some s) later = later s

spelled_run : {Tree Spot : Type 0} (exact : Exact Tree Spot) (spot last : Spot) (front rest : List Lexeme) →
    run exact.step spot front ≡ Some last → exact.spelled spot (front ++ rest) ≡ exact.spelled last rest
spelled_run exact spot last [] rest h = ap (λ s. exact.spelled s rest) (same_Some spot last h)
spelled_run exact spot last (token ∷ front) rest h = next (exact.step spot token) refl h (λ s. spelled_run exact s last front rest)
  where
    next : (after : Option _) → exact.step spot token ≡ after → then_run (λ s. run exact.step s front) after ≡ Some last →
        ((s : _) → run exact.step s front ≡ Some last → exact.spelled s (front ++ rest) ≡ exact.spelled last rest) →
        exact.spelled spot (token ∷ (front ++ rest)) ≡ exact.spelled last rest
    next None e k later = cc
    next (Some s) e k later = exact.steps spot s token (front ++ rest) e ∙ later s k

-- the tokens that were read begin something
run_begins : {Tree Spot : Type 0} (exact : Exact Tree Spot) (front : List Lexeme) (last : Spot) →
    run exact.step exact.start front ≡ Some last → Begins exact.tokens_of front
run_begins exact front last h =
    let whole = exact.completes last in
    record {
      tree = whole.0;
      more = whole.1;
      spelled = sym (exact.starts (front ++ whole.1)) ∙ spelled_run exact exact.start last front whole.1 h ∙ whole.2;
    }

-- tokens with no step begin nothing
stuck_begins : {Tree Spot : Type 0} (exact : Exact Tree Spot) (front : List Lexeme) →
    run exact.step exact.start front ≡ None → ¬ Begins exact.tokens_of front
stuck_begins exact front h begins =
    let read = exact.reads begins.tree in
    let some : run exact.step exact.start (front ++ begins.more) ≡ Some read.0 = ap (run exact.step exact.start) begins.spelled ∙ read.1 in
    let nothing : run exact.step exact.start (front ++ begins.more) ≡ None =
    run_append exact.step exact.start front begins.more ∙ ap (then_run (λ next. run exact.step next begins.more)) h in
    cc

-- what an outcome says of the tokens
abbrev pub Tells : {Tree : Type 0} → (Tree → List Lexeme) → List Lexeme → Outcome Tree → Type 0
Tells tokens_of whole (Found tree) = whole ≡ tokens_of tree
Tells tokens_of whole (Fault k) = IsFaultAt tokens_of whole k

one_more : {Spot : Type 0} (step : Spot → Lexeme → Option Spot) (start spot : Spot) (front : List Lexeme) (token : Lexeme) (after : Option Spot) →
    run step start front ≡ Some spot → step spot token ≡ after → run step start (front ++ token ∷ []) ≡ after
one_more step start spot front token after h e =
    run_append step start front (token ∷ []) ∙ ap (then_run (λ next. run step next (token ∷ []))) h ∙ only after e
  where
    only : (later : Option _) → step spot token ≡ later → then_run (λ next. run step next []) (step spot token) ≡ later
    only None k = ap (then_run (λ next. run step next [])) k
    only (Some s) k = ap (then_run (λ next. run step next [])) k

fault_inside : {Tree Spot : Type 0} (exact : Exact Tree Spot) (front tokens : List Lexeme) (token : Lexeme) (spot : Spot) →
    run exact.step exact.start front ≡ Some spot → exact.step spot token ≡ None → IsFaultAt exact.tokens_of (front ++ token ∷ tokens) (length front)
fault_inside exact front tokens token spot h e =
    let stuck = stuck_begins exact (front ++ token ∷ []) (one_more exact.step exact.start spot front token None h e) in
    let upto : take (suc (length front)) (front ++ token ∷ tokens) ≡ front ++ token ∷ [] =
    rw (← append_assoc front (token ∷ []) tokens) (take_at (front ++ token ∷ []) tokens (suc (length front)) (simp length-append (omega arith))) in
    record {
      within = simp length-append (omega arith);
      before = rw (take_at front (token ∷ tokens) (length front) refl) (run_begins exact front spot h);
      there = λ k. rw upto stuck;
      derived = λ tree k. stuck (record { tree = tree; more = tokens; spelled = append_assoc front (token ∷ []) tokens ∙ k });
    }

fault_after : {Tree Spot : Type 0} (exact : Exact Tree Spot) (front : List Lexeme) (spot : Spot) →
    run exact.step exact.start front ≡ Some spot → exact.finish spot ≡ None → IsFaultAt exact.tokens_of front (length front)
fault_after exact front spot h e = record {
  within = omega arith;
  before = rw upto (run_begins exact front spot h);
  there = λ k. absurd (omega (arith, k));
  derived = λ tree k. absurd (no_tree tree k);
}
  where
    upto : take (length front) front ≡ front
    upto = ap (take (length front)) (sym (append-nil front)) ∙ take_at front [] (length front) refl

    no_tree : (tree : _) → front ≡ exact.tokens_of tree → ⊥
    no_tree tree k =
        let read = exact.reads tree in
        let same : Some spot ≡ Some read.0 = sym h ∙ ap (run exact.step exact.start) k ∙ read.1 in
        let there : exact.finish spot ≡ Some tree = ap exact.finish (same_Some spot read.0 same) ∙ read.2 in
        cc

found_after : {Tree Spot : Type 0} (exact : Exact Tree Spot) (front : List Lexeme) (spot : Spot) (tree : Tree) →
    run exact.step exact.start front ≡ Some spot → exact.finish spot ≡ Some tree → front ≡ exact.tokens_of tree
found_after exact front spot tree h e =
    sym (append-nil front) ∙ sym (exact.starts (front ++ [])) ∙ spelled_run exact exact.start spot front [] h ∙ exact.finishes spot tree e

tells_from : {Tree Spot : Type 0} (exact : Exact Tree Spot) (front tokens : List Lexeme) (count : ℕ) (spot : Spot) →
    count ≡ length front → run exact.step exact.start front ≡ Some spot →
    Tells exact.tokens_of (front ++ tokens) (outcome_from exact count spot tokens)
tells_from exact front [] count spot n h = ending (exact.finish spot) refl
  where
    ending : (found : Option _) → exact.finish spot ≡ found → Tells exact.tokens_of (front ++ []) (at_end count found)
    ending None e = rw (n, append-nil front) (fault_after exact front spot h e)
    ending (Some tree) e = rw (append-nil front) (found_after exact front spot tree h e)
tells_from exact front (token ∷ tokens) count spot n h =
    next (exact.step spot token) refl (λ s. tells_from exact (front ++ token ∷ []) tokens (suc count) s (simp length-append (omega arith)))
  where
    next : (after : Option _) → exact.step spot token ≡ after →
        ((s : _) → run exact.step exact.start (front ++ token ∷ []) ≡ Some s →
        Tells exact.tokens_of ((front ++ token ∷ []) ++ tokens) (outcome_from exact (suc count) s tokens)) →
        Tells exact.tokens_of (front ++ token ∷ tokens) (go_on (λ s. outcome_from exact (suc count) s tokens) count after)
    next None e later = rw n (fault_inside exact front tokens token spot h e)
    next (Some s) e later =
        rw (← append_assoc front (token ∷ []) tokens) (later s (one_more exact.step exact.start spot front token (Some s) h e))

-- a reader that is exact for a grammar finds the tree, or the first fault
pub tells : {Tree Spot : Type 0} (exact : Exact Tree Spot) (tokens : List Lexeme) →
    Tells exact.tokens_of tokens (outcome_from exact 0 exact.start tokens)
tells exact tokens = tells_from exact [] tokens 0 exact.start refl refl

-- no tokens have two trees
pub one_tree : {Tree Spot : Type 0} (exact : Exact Tree Spot) (a b : Tree) → exact.tokens_of a ≡ exact.tokens_of b → a ≡ b
one_tree exact a b h =
    let first = exact.reads a in
    let second = exact.reads b in
    let spots : Some first.0 ≡ Some second.0 = sym first.1 ∙ ap (run exact.step exact.start) h ∙ second.1 in
    let found : Some a ≡ Some b = sym first.2 ∙ ap exact.finish (same_Some first.0 second.0 spots) ∙ second.2 in
    same_Some a b found
