-- From the nucleus of machines to the answer about the terms for which they stand.
use Rattle.std.proofs.Common.{ℕ, zero, suc, ◌≡◌, ◌+◌, ◌<◌, ◌≤◌, inl, inr, List, [], ◌∷◌, ◌++◌, append_assoc, length, map, take, drop, get_or, Ok, Err, refl, sym, ◌∙◌, ap, subst, arith}
use Rattle.std.specs.List.{AllByRecursion}
use Rattle.std.proofs.lemmas.List.Elements.{recursion_from_All}
use Rattle.std.proofs.lemmas.List.{append-nil, length-map, get_or-map, get_or_default}
use Rattle.fr_model.specs.Terms.{Term, One, IsAlike}
use Rattle.fr_model.specs.Automata.{State}
use Rattle.fr_model.specs.Classes.{IsClassList}
use Rattle.fr_model.specs.Canonical.{IsCanonical}
use Rattle.fr_model.specs.Nuclei.{IsGeneratorSection, IsNucleusMember, IsNucleusDepth}
use Rattle.fr_model.proofs.CodeLaws.{canonical-IsSize}
use Rattle.fr_machine.specs.Machine.{MachineView}
use Rattle.fr_machine.specs.Rows.{states_of}
use Rattle.fr_machine.proofs.RowLaws.{length-states_of}
use Rattle.fr_nucleus.specs.Elements.{element_of, elements_of, alphabet_of, IsSectionOf, IsMemberOf, HasMoreSections, HasMoreMembers}
use Rattle.fr_nucleus.specs.Orders.{AreCanonical, AreInOrder, IsBefore, machine_at}
use Rattle.fr_nucleus.specs.Elements.{AreOver}
use Rattle.fr_nucleus.specs.Faults.{IsNucleusFault}
use Rattle.fr_nucleus.specs.declared.fault.NucleusFault.{NucleusFault}
use Rattle.fr_nucleus.specs.declared.fault.NucleusFault.TheVariants.{TooManySections, Passes, NoMemory}
use Rattle.fr_script.specs.declared.fault.LineFault.{LineFault}
use Rattle.fr_script.specs.declared.fault.LineFault.TheVariants as f
use Rattle.fr_store.specs.Store.{View, Reads}
use Rattle.fr_plain.specs.Beginnings.{AreFirstMembers}
use Rattle.fr_expr.specs.declared.fault.EvalFault.{EvalFault}
use Rattle.fr_expr.specs.declared.fault.EvalFault.TheVariants as e
use Rattle.fr_expr.specs.Evaluation.{Makes}
use Rattle.fr_expr.proofs.EvaluationLaws.{Makes-trans, Makes-none}
use Rattle.fr_eval.specs.Concluding.{Concludes, MakesAll}
use Rattle.fr_eval.proofs.ConcludingLaws.{Halts, refuses, gives_up}
use Rattle.fr_plain.specs.Steps.{Step, Listed, IsRefused, AreEvaluated}
use Rattle.fr_plain.specs.Answers.{fails, IsListedBefore, AreMembers, nucleus_text, HasFewSections, AnswersNucleus}
use Rattle.fr_eval.specs.Generators.{AreAlikeTerms, automata_of, of_nucleus}
use Rattle.fr_eval.proofs.GeneratorLaws.{AreAlikeTerms-sym, Moves, sections_move, member_moves, more_move, depth_moves}

abbrev pub automaton_of : MachineView → List State
automaton_of m = states_of m.rows

module _ (ms : List MachineView) (ts : List Term) (same : AreAlikeTerms (alphabet_of ms) (elements_of ms) ts) where
  abbrev pub d : ℕ
  d = alphabet_of ms

  abbrev pub Q : Term → Type 0
  Q = IsGeneratorSection d ts

  onward : Moves (IsSectionOf ms) Q
  onward = sections_move d (elements_of ms) ts same

  back : Moves Q (IsSectionOf ms)
  back = sections_move d ts (elements_of ms) (AreAlikeTerms-sym d (elements_of ms) ts same)

  pub few_sections : ¬ HasMoreSections ms 64 → HasFewSections d ts
  few_sections h = λ m. h (more_move Q (IsSectionOf ms) 64 back m)

  pub many_sections : HasMoreSections ms 64 → AnswersNucleus d ts (fails f.TooManySections)
  many_sections h = AnswersNucleus.many_sections (more_move (IsSectionOf ms) Q 64 onward h)

  -- the same terms are members
  members_onward : Moves (IsMemberOf ms) (IsNucleusMember d Q)
  members_onward q h = (q, member_moves d (IsSectionOf ms) Q onward q h, record { images = λ w. refl })

  pub many_members : ¬ HasMoreSections ms 64 → HasMoreMembers ms 256 → AnswersNucleus d ts (fails f.NucleusPassed)
  many_members few h = AnswersNucleus.passed (few_sections few) (more_move (IsMemberOf ms) (IsNucleusMember d Q) 256 members_onward h)

  module _ (ns : List MachineView) (classes : IsClassList (IsMemberOf ms) IsAlike (elements_of ns)) (canonical : AreCanonical d ns) (order : AreInOrder ns) where
    abbrev pub z : MachineView
    z = record { alphabet = 0; rows = [] }

    count : length (elements_of ns) ≡ length ns
    count = length-map ns element_of

    member_at : (i : ℕ) (y : Term) → i < length ns → get_or (elements_of ns) i y ≡ element_of (machine_at ns i)
    member_at i y l = get_or-map element_of ns i z y l

    automaton_at : (i : ℕ) (y : List State) → i < length ns → get_or (automata_of ns) i y ≡ states_of (machine_at ns i).rows
    automaton_at i y l = get_or-map automaton_of ns i z y l

    listed : (i j : ℕ) → IsBefore (machine_at ns i).rows (machine_at ns j).rows → IsListedBefore (states_of (machine_at ns i).rows) (states_of (machine_at ns j).rows)
    listed i j (inl l) = inl (omega (arith, l, length-states_of (machine_at ns i).rows, length-states_of (machine_at ns j).rows))
    listed i j (inr e) = inr (length-states_of (machine_at ns i).rows ∙ e.0 ∙ sym (length-states_of (machine_at ns j).rows), e.1)

    pub are_members : AreMembers d Q (elements_of ns) (automata_of ns)
    are_members = record {
      count = length-map ns automaton_of ∙ sym count;
      member = λ i l. member_moves d (IsSectionOf ms) Q onward (get_or (elements_of ns) i One) (classes.valid i One l);
      canonical = λ i l.
          let k : i < length ns = omega (arith, l, count) in
          let P : Term → Type 0 = λ t. IsCanonical d t (states_of (machine_at ns i).rows) in
          let R : List State → Type 0 = λ qs. IsCanonical d (get_or (elements_of ns) i One) qs in
          subst R (sym (automaton_at i [] k)) (subst P (sym (member_at i One k)) (canonical i z k));
      whole = λ t h.
          let r = classes.covers t (member_moves d Q (IsSectionOf ms) back t h) in
          (r.0, r.1, subst (λ (u : Term). IsAlike t u) (get_or_default (elements_of ns) r.0 t One r.1) r.2);
      ordered = λ i j l k.
          let kj : j < length ns = omega (arith, k, count) in
          let ki : i < length ns = omega (arith, l, kj) in
          let P : List State → Type 0 = λ qs. IsListedBefore qs (get_or (automata_of ns) j []) in
          let R : List State → Type 0 = λ qs. IsListedBefore (states_of (machine_at ns i).rows) qs in
          subst P (sym (automaton_at i [] ki)) (subst R (sym (automaton_at j [] kj)) (listed i j (order i j l kj)));
    }

    pub found : (depth n : ℕ) → ¬ HasMoreSections ms 64 → length ns ≤ 256 → IsNucleusDepth d (IsSectionOf ms) depth → AreEvaluated d (map Listed (elements_of ns)) n
        → AnswersNucleus d ts (record { steps = map Listed (elements_of ns); charge = n; answer = Ok (nucleus_text (automata_of ns) depth) })
    found depth n few most deep charged =
        AnswersNucleus.found (elements_of ns) (automata_of ns) depth n (few_sections few) are_members (omega (arith, most, count)) (depth_moves d (IsSectionOf ms) Q depth onward back deep) charged

-- ---- over the letters of a store
pub alphabet_is : (d : ℕ) (ms : List MachineView) → 0 < length ms → AreOver d ms → alphabet_of ms ≡ d
alphabet_is d [] l a = absurd (omega arith)
alphabet_is d (m ∷ ms) l a = a 0 m l

-- the members are charged their states
pub members_charged : (d : ℕ) (ns : List MachineView) → AllByRecursion (λ m. IsCanonical d (element_of m) (states_of m.rows)) ns → (n : ℕ) × AreEvaluated d (map Listed (elements_of ns)) n
members_charged d [] a = (0, refl)
members_charged d (n ∷ ns) a =
    let rest = members_charged d ns a.1 in
    let size = length (states_of n.rows) in
    (size + rest.0, (size, rest.0, canonical-IsSize d (element_of n) (states_of n.rows) a.0, rest.1, refl))

module _ {S : Type 0} (view : View S) (onward : (s t u : S) → view.kin s t → view.kin t u → view.kin s u) (d : ℕ) (ms : List MachineView) (ts : List Term) (over : alphabet_of ms ≡ d) (same : AreAlikeTerms d (elements_of ms) ts) where
  from_machines : AreAlikeTerms (alphabet_of ms) (elements_of ms) ts
  from_machines = subst (λ (n : ℕ). AreAlikeTerms n (elements_of ms) ts) (sym over) same

  pub nucleus_refused : (old new : S) (x : ℕ) (text : List ℕ) (fault : NucleusFault) → Reads view old new → IsNucleusFault ms 256 fault
      → Concludes view d (λ e. AnswersNucleus d ts e) (λ more. AreFirstMembers d ts more) old new x x text text (Err (of_nucleus fault))
  nucleus_refused old new x text TooManySections reads h =
      let P : ℕ → Type 0 = λ (n : ℕ). AnswersNucleus n ts (fails f.TooManySections) in
      refuses view onward d (λ e. AnswersNucleus d ts e) (λ more. AreFirstMembers d ts more) old new x text text f.TooManySections reads (subst P over (many_sections ms ts from_machines h)) refl
  nucleus_refused old new x text (Passes n) reads h =
      let P : ℕ → Type 0 = λ (k : ℕ). AnswersNucleus k ts (fails f.NucleusPassed) in
      refuses view onward d (λ e. AnswersNucleus d ts e) (λ more. AreFirstMembers d ts more) old new x text text f.NucleusPassed reads (subst P over (many_members ms ts from_machines h.1 h.2)) refl
  nucleus_refused old new x text NoMemory reads h = gives_up view onward d (λ e. AnswersNucleus d ts e) (λ more. AreFirstMembers d ts more) old new x text text reads

  -- the ending where there is a nucleus
  module _ (ns : List MachineView) (depth : ℕ) (classes : IsClassList (IsMemberOf ms) IsAlike (elements_of ns)) (canonical : AreCanonical (alphabet_of ms) ns) (order : AreInOrder ns) (few : ¬ HasMoreSections ms 64) (most : length ns ≤ 256)
      (deep : IsNucleusDepth (alphabet_of ms) (IsSectionOf ms) depth) where
    pub answer_of_nucleus : (n : ℕ) → AreEvaluated d (map Listed (elements_of ns)) n → AnswersNucleus d ts (record { steps = map Listed (elements_of ns); charge = n; answer = Ok (nucleus_text (automata_of ns) depth) })
    answer_of_nucleus n v =
        let P : ℕ → Type 0 = λ (k : ℕ). AnswersNucleus k ts (record { steps = map Listed (elements_of ns); charge = n; answer = Ok (nucleus_text (automata_of ns) depth) }) in
        subst P over (found ms ts from_machines ns classes canonical order depth n few most deep (subst (λ (k : ℕ). AreEvaluated k (map Listed (elements_of ns)) n) (sym over) v))

    -- some of the members are the first ones of an answer
    first_members : (done rest : List Step) → map Listed (elements_of ns) ≡ done ++ rest → AreFirstMembers d ts done
    first_members done rest e =
        let c = members_charged d ns (recursion_from_All (λ (m : MachineView). IsCanonical d (element_of m) (states_of m.rows)) ns (subst (λ (k : ℕ). AreCanonical k ns) over canonical)) in
        record {
          ending = record { steps = map Listed (elements_of ns); charge = c.0; answer = Ok (nucleus_text (automata_of ns) depth) };
          contracts = answer_of_nucleus c.0 c.1;
          rest = rest;
          begins = e;
        }

    none_refused : (t : Term) (fault : LineFault) → IsRefused d (Listed t) fault → ⊥
    none_refused t fault h = h

    listed_next : (done rest : List Step) (next : Step) (us : List Term) → map Listed us ≡ done ++ next ∷ rest → (t : Term) × (next ≡ Listed t)
    listed_next [] rest next [] e = absurd (omega (arith, ap length e))
    listed_next [] rest next (u ∷ us) e = (u, cc)
    listed_next (s ∷ done) rest next [] e = absurd (omega (arith, ap length e))
    listed_next (s ∷ done) rest next (u ∷ us) e = listed_next done rest next us cc

    module _ (old mid new : S) (x y : ℕ) (text : List ℕ) (reads : Reads view old mid) where
      behind_reads : (ss : List Step) → Makes view d mid new x y ss → Makes view d old new x y ss
      behind_reads ss m = Makes-trans view onward d old mid new x x y [] ss (Makes-none view onward d old mid x reads) m

      pub nucleus_halts : (fault : EvalFault) → MakesAll view d mid new x y (map Listed (elements_of ns)) (Err fault) → Concludes view d (λ e. AnswersNucleus d ts e) (λ more. AreFirstMembers d ts more) old new x y text text (Err fault)
      nucleus_halts (e.Refused fault) h =
          let l = listed_next h.done h.stopped.rest h.stopped.next (elements_of ns) h.stopped.all in
          absurd (none_refused l.0 fault (subst (λ (s : Step). IsRefused d s fault) l.1 h.stopped.refused))
      nucleus_halts (e.Full claimed asked) h = (
        record {
          done = h.done;
          next = h.next;
          first = first_members (h.done ++ h.next ∷ []) h.rest (h.all ∙ sym (append_assoc h.done (h.next ∷ []) h.rest));
          makes = behind_reads h.done h.makes;
          next_charged = h.charged;
          unknown = h.unknown;
          passes = h.passes;
          seen = h.seen;
        },
        refl,
      )
      nucleus_halts e.NoMemory h = record { done = h.done; first = inr (first_members h.done h.rest h.all); makes = behind_reads h.done h.makes }

      pub nucleus_gives_up : (text' : List ℕ) → Makes view d mid new x y (map Listed (elements_of ns)) → Concludes view d (λ e. AnswersNucleus d ts e) (λ more. AreFirstMembers d ts more) old new x y text text' (Err e.NoMemory)
      nucleus_gives_up text' m = record { done = map Listed (elements_of ns); first = inr (first_members (map Listed (elements_of ns)) [] (sym (append-nil (map Listed (elements_of ns))))); makes = behind_reads (map Listed (elements_of ns)) m }

      pub nucleus_found : (text' : List ℕ) → Makes view d mid new x y (map Listed (elements_of ns)) → text' ≡ text ++ nucleus_text (automata_of ns) depth
          → Concludes view d (λ e. AnswersNucleus d ts e) (λ more. AreFirstMembers d ts more) old new x y text text' (Ok tt)
      nucleus_found text' m e = (
        record { steps = map Listed (elements_of ns); charge = m.charge; answer = Ok (nucleus_text (automata_of ns) depth) },
        record {
          ends = answer_of_nucleus m.charge m.evaluated;
          first = inr (first_members (map Listed (elements_of ns)) [] (sym (append-nil (map Listed (elements_of ns)))));
          makes = behind_reads (map Listed (elements_of ns)) m;
          charged = m.charged;
        },
        nucleus_text (automata_of ns) depth,
        refl,
        e,
      )

-- ---- members that are entered one after the other
pub listed_split : (ms : List MachineView) (i : ℕ) (z : MachineView) → i < length ms
    → map Listed (elements_of ms) ≡ map Listed (elements_of (take i ms)) ++ (Listed (element_of (get_or ms i z)) ∷ map Listed (elements_of (drop (suc i) ms)))
listed_split [] i z l = absurd (omega arith)
listed_split (m ∷ ms) zero z l = refl
listed_split (m ∷ ms) (suc i) z l = ap (λ ss. Listed (element_of m) ∷ ss) (listed_split ms i z (omega arith))

pub listed_more : (ms : List MachineView) (i : ℕ) (z : MachineView) → i < length ms → map Listed (elements_of (take (suc i) ms)) ≡ map Listed (elements_of (take i ms)) ++ Listed (element_of (get_or ms i z)) ∷ []
listed_more [] i z l = absurd (omega arith)
listed_more (m ∷ ms) zero z l = refl
listed_more (m ∷ ms) (suc i) z l = ap (λ ss. Listed (element_of m) ∷ ss) (listed_more ms i z (omega arith))

pub halts_makes : {S : Type 0} (view : View S) (d : ℕ) (old new : S) (x y : ℕ) (ss : List Step) (fault : EvalFault) → Halts view d old new x y ss fault → MakesAll view d old new x y ss (Err fault)
halts_makes view d old new x y ss (e.Refused fault) h = h
halts_makes view d old new x y ss (e.Full claimed asked) h = h
halts_makes view d old new x y ss e.NoMemory h = h
