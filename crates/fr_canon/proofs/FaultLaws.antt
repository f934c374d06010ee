-- The faults of a text, and why the text of an element has none.
use Rattle.std.proofs.Common.{ℕ, ◌≡◌, ◌+◌, ◌≤◌, ◌⊎◌, inl, inr, List, length, refl, sym, ◌∙◌, ap, subst, arith}
use Rattle.std.specs.Prelude.{Result, Ok, Err, IfOk, IfErr, MatchResult}
use Rattle.fr_model.specs.Terms.{Term, IsTerm}
use Rattle.fr_model.specs.Automata.{State}
use Rattle.fr_model.specs.Canonical.{IsCanonical}
use Rattle.fr_model.proofs.CanonicalLaws.{at_zero}
use Rattle.fr_machine.specs.declared.row.Row.{Row}
use Rattle.fr_machine.specs.Machine.{MachineView}
use Rattle.fr_machine.specs.Rows.{states_of}
use Rattle.fr_canon.specs.Texts.{machine_text}
use Rattle.fr_canon.proofs.TextLaws.{no_syntax_fault, machine_text-same}
use Rattle.fr_canon.proofs.CanonicalOrderLaws.{IsInOrder-canonical, no_repeat}
use Rattle.fr_canon.specs.declared.fault.ReadFault.{ReadFault}
use Rattle.fr_canon.specs.declared.fault.ReadFault.TheVariants.{Syntax, NotCanonical, NoMemory}
use Rattle.fr_canon.specs.Readings.{IsReadFault, IsSyntaxFault, IsOrderFault, IsFirstOutOfOrder, IsFirstRepeated, IsMachineText, out_of_order, repeated}

pub syntax_fault : (d : ℕ) (text : List ℕ) (e : ReadFault) → (e ≡ NoMemory) ⊎ ((line : ℕ) × (e ≡ Syntax line) × IsSyntaxFault d text line) → (e ≡ NoMemory) ⊎ IsReadFault d text e
syntax_fault d text e (inl h) = inl h
syntax_fault d text e (inr h) = let P : ReadFault → Type 0 = λ f. IsReadFault d text f in inr (subst P (sym h.1) h.2)

-- what stops the reading of rows
abbrev pub StopsRows : List State → ReadFault → Type 0
StopsRows qs e = (e ≡ NoMemory) ⊎ ((k : ℕ) × (e ≡ NotCanonical (k + 2)) × (IsFirstOutOfOrder qs k ⊎ IsFirstRepeated qs k))

-- what stops the reading of a text
abbrev pub StopsText : ℕ → List ℕ → ReadFault → Type 0
StopsText d text e = (e ≡ NoMemory) ⊎ IsReadFault d text e

pub order_fault : (d : ℕ) (text : List ℕ) (qs : List State) (e : ReadFault) → IsMachineText d qs text → StopsRows qs e → StopsText d text e
order_fault d text qs e t (inl h) = inl h
order_fault d text qs e t (inr h) =
    let P : ReadFault → Type 0 = λ f. IsReadFault d text f in
    let fault : IsOrderFault d text (h.0 + 2) = elim h.2 [ inl o ↦ out_of_order qs h.0 t o refl | inr r ↦ repeated qs h.0 t r refl ] in
    inr (subst P (sym h.1) fault)

-- the text of an element has no fault
no_fault : (d : ℕ) (text : List ℕ) (t : Term) (qs : List State) → d ≤ 8 → IsTerm d t → IsCanonical d t qs → IsMachineText d qs text → (e : ReadFault) → IsReadFault d text e → ⊥
no_fault d text t qs few valid a h (Syntax line) f = no_syntax_fault d text qs few h line f
no_fault d text t qs few valid a h (NotCanonical line) (out_of_order ps k g o e) =
    let P : List State → Type 0 = λ rs. IsFirstOutOfOrder rs k in
    let o' = subst P (machine_text-same d text qs few h ps g) o in
    o'.fault (IsInOrder-canonical d t qs a k o'.state)
no_fault d text t qs few valid a h (NotCanonical line) (repeated ps k g r e) =
    let P : List State → Type 0 = λ rs. IsFirstRepeated rs k in
    let r' = subst P (machine_text-same d text qs few h ps g) r in
    no_repeat d t qs a valid k r'.state r'.repeated
no_fault d text t qs few valid a h NoMemory f = f

IsMachineText-canonical : (d : ℕ) (text : List ℕ) (t : Term) (qs : List State) → IsCanonical d t qs → length qs ≤ 1024 → text ≡ machine_text qs → IsMachineText d qs text
IsMachineText-canonical d text t qs a few e = (let z = at_zero d t qs a in record { automaton = a.automaton; some = omega (arith, z.0, a.count); few = few; written = e })

pub only_memory : (d : ℕ) (text : List ℕ) (t : Term) (qs : List State) (e : ReadFault) → d ≤ 8 → IsTerm d t → IsCanonical d t qs → length qs ≤ 1024 → text ≡ machine_text qs → StopsText d text e → e ≡ NoMemory
only_memory d text t qs e few valid a small is (inl h) = h
only_memory d text t qs e few valid a small is (inr f) = absurd (no_fault d text t qs few valid a (IsMachineText-canonical d text t qs a small is) e f)

-- what the reading of the text of an element gives
pub accepted : (d : ℕ) (text : List ℕ) (rows : List Row) (t : Term) (qs : List State) (r : Result MachineView ReadFault) → d ≤ 8 → IsMachineText d (states_of rows) text → IfOk r (λ m. m ≡ record { alphabet = d; rows = rows }) → IfErr r (StopsText d text)
    → IsTerm d t → IsCanonical d t qs → length qs ≤ 1024 → text ≡ machine_text qs → MatchResult r (λ m. states_of m.rows ≡ qs) (λ e. e ≡ NoMemory)
accepted d text rows t qs (Ok m) few g value err valid a small is = ap (λ n. states_of n.rows) value ∙ machine_text-same d text qs few (IsMachineText-canonical d text t qs a small is) (states_of rows) g
accepted d text rows t qs (Err e) few g value err valid a small is = only_memory d text t qs e few valid a small is err
