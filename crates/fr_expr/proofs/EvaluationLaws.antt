-- How evaluations join: one goes on where another ended, or stops with it.
use Rattle.std.proofs.Common.{ℕ, ◌≡◌, ◌≤◌, ◌+◌, inl, inr, List, [], ◌∷◌, ◌++◌, map, refl, sym, ◌∙◌, ap, subst, arith, append_assoc, Option, Result, Ok, Err}
use Rattle.std.proofs.lemmas.List.{map-append, append-nil}
use Rattle.fr_model.specs.Terms.{Term}
use Rattle.fr_store.specs.declared.handle.Handle.{Handle}
use Rattle.fr_store.specs.declared.handle.Full as full
use Rattle.fr_store.specs.Store.{View, StandsForTerm, Stands, GrowsBy, Continues, Reads, Keeps, IsInterned, IsFull}
use Rattle.fr_store.proofs.StoreLaws.{stands_keeps, GrowsBy-none, GrowsBy-trans, Continues-trans, IsUnknown-same}
use Rattle.fr_script.specs.declared.fault.LineFault.{LineFault}
use Rattle.fr_plain.specs.Steps.{Step, Multiplied, value_of, IsCharged, IsRefused, AreEvaluated, AreStopped}
use Rattle.fr_plain.specs.Expansions.{Expansion, given, followed_by, step, product_of}
use Rattle.fr_plain.proofs.StepLaws.{AreEvaluated-append}
use Rattle.fr_expr.specs.declared.fault.EvalFault.{EvalFault}
use Rattle.fr_expr.specs.declared.fault.EvalFault.TheVariants.{Refused, Full, NoMemory}
use Rattle.fr_expr.specs.Evaluation.{HaveHandles, Makes, Evaluates, Multiplies}

pub HaveHandles-keeps : (d : ℕ) (old new : ℕ → Option (List ℕ)) (ss : List Step) → Keeps old new → HaveHandles d old ss → HaveHandles d new ss
HaveHandles-keeps d old new [] k h = tt
HaveHandles-keeps d old new (s ∷ ss) k h = ((h.0.0, stands_keeps d old new h.0.0 (value_of s) k h.0.1), HaveHandles-keeps d old new ss k h.1)

pub HaveHandles-append : (d : ℕ) (known : ℕ → Option (List ℕ)) (ss ts : List Step) → HaveHandles d known ss → HaveHandles d known ts → HaveHandles d known (ss ++ ts)
HaveHandles-append d known [] ts a b = b
HaveHandles-append d known (s ∷ ss) ts a b = (a.0, HaveHandles-append d known ss ts a.1 b)

-- a stop behind steps that were evaluated is a stop of the whole
pub stopped_behind : (d : ℕ) (first ss done : List Step) (m n : ℕ) (fault : LineFault) → AreEvaluated d first m → AreStopped d ss done n fault → AreStopped d (first ++ ss) (first ++ done) (m + n) fault
stopped_behind d first ss done m n fault e s = record {
  next = s.next;
  rest = s.rest;
  all = ap (λ (l : List Step). first ++ l) s.all ∙ sym (append_assoc first done (s.next ∷ s.rest));
  evaluated = AreEvaluated-append d first done m n e s.evaluated;
  refused = s.refused;
}

pub stopped_before : (d : ℕ) (ss rest done : List Step) (n : ℕ) (fault : LineFault) → AreStopped d ss done n fault → AreStopped d (ss ++ rest) done n fault
stopped_before d ss rest done n fault s = record {
  next = s.next;
  rest = s.rest ++ rest;
  all = ap (λ (l : List Step). l ++ rest) s.all ∙ append_assoc done (s.next ∷ s.rest) rest;
  evaluated = s.evaluated;
  refused = s.refused;
}

module _ {S : Type 0} (view : View S) (onward : (s t u : S) → view.kin s t → view.kin t u → view.kin s u) where
  pub Makes-trans : (d : ℕ) (old mid new : S) (x y z : ℕ) (ss ts : List Step) → Makes view d old mid x y ss → Makes view d mid new y z ts → Makes view d old new x z (ss ++ ts)
  Makes-trans d old mid new x y z ss ts a b = record {
    grows = subst (λ (l : List Term). GrowsBy d (view.known old) (view.known new) l) (sym (map-append value_of ss ts)) (GrowsBy-trans d (view.known old) (view.known mid) (view.known new) (map value_of ss) (map value_of ts) a.grows b.grows);
    handles = HaveHandles-append d (view.known new) ss ts (HaveHandles-keeps d (view.known mid) (view.known new) ss b.grows.keeps a.handles) b.handles;
    charge = a.charge + b.charge;
    evaluated = AreEvaluated-append d ss ts a.charge b.charge a.evaluated b.evaluated;
    charged = omega (arith, a.charged, b.charged);
    own = omega (arith, a.own, b.own);
    continues = Continues-trans view onward old mid new a.continues b.continues;
  }

  pub Makes-none : (d : ℕ) (old new : S) (x : ℕ) → Reads view old new → Makes view d old new x x []
  Makes-none d old new x r = record {
    grows = GrowsBy-none d (view.known old) (view.known new) r.known;
    handles = tt;
    charge = 0;
    evaluated = refl;
    charged = omega arith;
    own = omega (arith, r.own);
    continues = r.continues;
  }

  -- an evaluation behind steps that were made
  pub behind : (d : ℕ) (first : List Step) (e : Expansion) (old mid new : S) (x y z : ℕ) (r : Result Handle EvalFault) → Makes view d old mid x y first → Evaluates view d mid new y z e r
      → Evaluates view d old new x z (record { steps = first ++ e.steps; value = e.value }) r
  behind d first e old mid new x y z (Ok h) m v = record { handle = v.handle; makes = Makes-trans d old mid new x y z first e.steps m v.makes }
  behind d first e old mid new x y z (Err (Refused fault)) m v = record {
    done = first ++ v.done;
    charge = m.charge + v.charge;
    stopped = stopped_behind d first e.steps v.done m.charge v.charge fault m.evaluated v.stopped;
    makes = Makes-trans d old mid new x y z first v.done m v.makes;
  }
  behind d first e old mid new x y z (Err (Full claimed asked)) m v = record {
    done = first ++ v.done;
    next = v.next;
    rest = v.rest;
    all = ap (λ (l : List Step). first ++ l) v.all ∙ sym (append_assoc first v.done (v.next ∷ v.rest));
    makes = Makes-trans d old mid new x y z first v.done m v.makes;
    charged = v.charged;
    unknown = v.unknown;
    passes = v.passes;
    seen = v.seen;
  }
  behind d first e old mid new x y z (Err NoMemory) m v = record {
    done = first ++ v.done;
    rest = v.rest;
    all = ap (λ (l : List Step). first ++ l) v.all ∙ sym (append_assoc first v.done v.rest);
    makes = Makes-trans d old mid new x y z first v.done m v.makes;
  }

  -- the first part has its element, and the second goes on with it
  pub goes : (d : ℕ) (e : Expansion) (next : Term → Expansion) (old mid new : S) (x y z : ℕ) (h : Handle) (r : Result Handle EvalFault) → Evaluates view d old mid x y e (Ok h)
      → (StandsForTerm d (view.known mid) h e.value → Evaluates view d mid new y z (next e.value) r) → Evaluates view d old new x z (followed_by e next) r
  goes d e next old mid new x y z h r a b = behind d e.steps (next e.value) old mid new x y z r a.makes (b a.handle)

  -- the first part stops, and the whole with it
  pub stops : (d : ℕ) (e : Expansion) (next : Term → Expansion) (old new : S) (x y : ℕ) (fault : EvalFault) → Evaluates view d old new x y e (Err fault) → Evaluates view d old new x y (followed_by e next) (Err fault)
  stops d e next old new x y (Refused fault) v = record {
    done = v.done;
    charge = v.charge;
    stopped = stopped_before d e.steps (next e.value).steps v.done v.charge fault v.stopped;
    makes = v.makes;
  }
  stops d e next old new x y (Full claimed asked) v = record {
    done = v.done;
    next = v.next;
    rest = v.rest ++ (next e.value).steps;
    all = ap (λ (l : List Step). l ++ (next e.value).steps) v.all ∙ append_assoc v.done (v.next ∷ v.rest) (next e.value).steps;
    makes = v.makes;
    charged = v.charged;
    unknown = v.unknown;
    passes = v.passes;
    seen = v.seen;
  }
  stops d e next old new x y NoMemory v = record {
    done = v.done;
    rest = v.rest ++ (next e.value).steps;
    all = ap (λ (l : List Step). l ++ (next e.value).steps) v.all ∙ append_assoc v.done v.rest (next e.value).steps;
    makes = v.makes;
  }

  -- the same, where the second part is said over the letters of the store in between
  pub goes_from : (d : ℕ) (e : Expansion) (next : Term → Expansion) (old mid new : S) (x y z : ℕ) (h : Handle) (r : Result Handle EvalFault) → view.alphabet mid ≡ d
      → Evaluates view d old mid x y e (Ok h) → (Stands view mid h e.value → Evaluates view (view.alphabet mid) mid new y z (next e.value) r) → Evaluates view d old new x z (followed_by e next) r
  goes_from d e next old mid new x y z h r over a b =
      subst (λ (k : ℕ). Evaluates view k old mid x y e (Ok h) → Evaluates view k old new x z (followed_by e next) r) over
      (λ v. goes (view.alphabet mid) e next old mid new x y z h r v b) a

  -- an element that is there already
  pub stays : (d : ℕ) (t : Term) (s : S) (x : ℕ) (h : Handle) → view.kin s s → StandsForTerm d (view.known s) h t → Evaluates view d s s x x (given t) (Ok h)
  stays d t s x h self stands = record {
    handle = stands;
    makes = Makes-none d s s x (record { known = λ n. refl; own = refl; continues = record { alphabet = refl; capacity = refl; seen = omega arith; kin = self } });
  }

  -- calls that only read go before
  pub after_reads : (d : ℕ) (e : Expansion) (old mid new : S) (x y : ℕ) (r : Result Handle EvalFault) → Reads view old mid → Evaluates view d mid new x y e r → Evaluates view d old new x y e r
  after_reads d e old mid new x y r reads v = behind d [] e old mid new x x y r (Makes-none d old mid x reads) v

  pub before_reads : (d : ℕ) (e : Expansion) (old mid new : S) (x y : ℕ) (h : Handle) → Evaluates view d old mid x y e (Ok h) → Reads view mid new → Evaluates view d old new x y e (Ok h)
  before_reads d e old mid new x y h v reads = record {
    handle = stands_keeps d (view.known mid) (view.known new) h e.value (λ n code k. reads.known n ∙ k) v.handle;
    makes = subst (λ (l : List Step). Makes view d old new x y l) (append-nil e.steps) (Makes-trans d old mid new x y y e.steps [] v.makes (Makes-none d mid new y reads));
  }

  -- want of memory before anything was made
  pub gives_up : (d : ℕ) (e : Expansion) (old new : S) (x : ℕ) → Reads view old new → Evaluates view d old new x x e (Err NoMemory)
  gives_up d e old new x r = record { done = []; rest = e.steps; all = refl; makes = Makes-none d old new x r }

  -- the first step is refused
  pub refuses : (d : ℕ) (s : Step) (old new : S) (x : ℕ) (fault : LineFault) → Reads view old new → IsRefused d s fault → Evaluates view d old new x x (step s) (Err (Refused fault))
  refuses d s old new x fault r is = record {
    done = [];
    charge = 0;
    stopped = record { next = s; rest = []; all = refl; evaluated = refl; refused = is };
    makes = Makes-none d old new x r;
  }

  -- one step that is made
  pub one_step : (d : ℕ) (s : Step) (old new : S) (x n : ℕ) (h : Handle) → GrowsBy d (view.known old) (view.known new) (value_of s ∷ []) → StandsForTerm d (view.known new) h (value_of s)
      → IsCharged d s n → view.own new ≤ view.own old + n → Continues view old new → Evaluates view d old new x (x + n) (step s) (Ok h)
  one_step d s old new x n h grows stands charged own continues = record {
    handle = stands;
    makes = record {
      grows = grows;
      handles = ((h, stands), tt);
      charge = n;
      evaluated = (n, 0, charged, refl, omega arith);
      charged = refl;
      own = omega (arith, own);
      continues = continues;
    };
  }

  -- one step that only reads and costs nothing
  pub one_read : (d : ℕ) (s : Step) (old new : S) (x : ℕ) (h : Handle) → Reads view old new → StandsForTerm d (view.known new) h (value_of s) → IsCharged d s 0 → Evaluates view d old new x x (step s) (Ok h)
  one_read d s old new x h r stands charged = record {
    handle = stands;
    makes = record {
      grows = record { keeps = λ n code k. r.known n ∙ k; only = λ n code k. inl (sym (r.known n) ∙ k) };
      handles = ((h, stands), tt);
      charge = 0;
      evaluated = (0, 0, charged, refl, omega arith);
      charged = omega arith;
      own = omega (arith, r.own);
      continues = r.continues;
    };
  }

  -- what intern answers makes a step
  pub entered : (s : Step) (size : ℕ) (old new : S) (x : ℕ) (h : Handle) → IsInterned view (value_of s) size old new h → Continues view old new → IsCharged (view.alphabet old) s size
      → Evaluates view (view.alphabet old) old new x (x + size) (step s) (Ok h)
  entered s size old new x h i on charged =
      one_step (view.alphabet old) s old new x size h i.grows i.handle charged (elim i.claim [ inl m ↦ omega (arith, m.0) | inr c ↦ omega (arith, c.own) ]) on

  pub found_full : (s : Step) (size : ℕ) (old new : S) (x : ℕ) (f : full.Full) → IsFull view (value_of s) size old new f → Continues view old new → IsCharged (view.alphabet old) s size
      → Evaluates view (view.alphabet old) old new x x (step s) (Err (Full f.before f.asked))
  found_full s size old new x f i on charged = record {
    done = [];
    next = s;
    rest = [];
    all = refl;
    makes = Makes-none (view.alphabet old) old new x (record { known = i.known; own = i.own; continues = on });
    charged = subst (λ (n : ℕ). IsCharged (view.alphabet old) s n) (sym i.asked) charged;
    unknown = IsUnknown-same (view.alphabet old) (view.known old) (view.known new) (value_of s) i.known i.unknown;
    passes = omega (arith, i.passes, on.capacity);
    seen = i.seen;
  }

  -- a product for which there is no machine
  pub product_stops : (d : ℕ) (t u : Term) (old new : S) (x : ℕ) (e : EvalFault) → Reads view old new → Multiplies d t u (Err e) → Evaluates view d old new x x (product_of t u) (Err e)
  product_stops d t u old new x (Refused fault) r is = refuses d (Multiplied t u) old new x fault r is
  product_stops d t u old new x (Full claimed asked) r is = absurd is
  product_stops d t u old new x NoMemory r is = gives_up d (product_of t u) old new x r

-- a store that nothing happens to
pub Reads-none : {S : Type 0} (view : View S) (self : (s : S) → view.kin s s) (s : S) → Reads view s s
Reads-none view self s = record {
  known = λ n. refl;
  own = refl;
  continues = record { alphabet = refl; capacity = refl; seen = omega arith; kin = self s };
}

-- what a handle stood for before calls that keep what is known
pub carries : {S : Type 0} (view : View S) (old new : S) (h : Handle) (t : Term) → Continues view old new → Keeps (view.known old) (view.known new) → Stands view old h t → Stands view new h t
carries view old new h t on keeps s =
    subst (λ (k : ℕ). StandsForTerm k (view.known new) h t) (sym on.alphabet) (stands_keeps (view.alphabet old) (view.known old) (view.known new) h t keeps s)
