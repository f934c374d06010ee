use Rattle.std.proofs.Common.{ℕ, ◌≡◌, ◌<◌, ◌+◌, arith, length, sym, ◌∙◌, ap, subst}
use Rattle.std.proofs.lemmas.List.{get_or_read}
use Rattle.fr_model.specs.Automata.{next_state}
use Rattle.fr_machine.specs.Rows.{states_of}
use Rattle.fr_machine.proofs.RowLaws.{length-states_of}
use Rattle.fr_minimal.specs.declared.met.Met.{Met}
use Rattle.fr_minimal.specs.Searches.{met_at, IsMeeting}
use Rattle.fr_minimal.proofs.MeetingLaws.{StayMet-meeting, IsSearched-meeting, IsSearched-row}
use Rattle.fr_minimal.proofs.separation.visit.Goals as goal

pub loop-x-preserved : goal.loop-x-preserved
loop-x-preserved c =
    let h = c.loop-x.invariant in
    let place = c.args.place in
    let first = c.args.search.now.met.items in
    let met = c.loop-x.search.met.items in
    let ps = states_of c.args.m.now.rows in
    let qs = states_of c.args.n.now.rows in
    let x = c.loop-x.x + 1 in
    let none : Met = record { left = 0; right = 0; before = 0; letter = 0 } in
    let new : Met = record { left = c.next.result; right = c.next-in-loop-x.result; before = place; letter = x } in
    let read : c.index-met.result.now ≡ met_at first place = get_or_read first place c.index-met.result.now c.requires.place c.index-met.ensures none in
    let here : c.index-met.result.now ≡ met_at met place = read ∙ sym (h.stay.1 place c.requires.place) in
    let inside : place < length met = omega (arith, h.stay.0, c.requires.place) in
    let rows : c.loop-x.search.left_rows ≡ length ps = h.left_rows ∙ c.requires.left_rows ∙ sym (length-states_of c.args.m.now.rows) in
    let P : ℕ → Type 0 = λ k. IsMeeting k met c.meet.new.self.met.items new in
    record {
      left_rows = c.meet.ensures.left_rows ∙ h.left_rows;
      rows = c.meet.ensures.rows ∙ h.rows;
      stay = StayMet-meeting c.loop-x.search.left_rows first met c.meet.new.self.met.items new h.stay c.meet.ensures.met;
      searched = λ s t f. IsSearched-meeting c.args.m.now.alphabet ps qs s t met c.meet.new.self.met.items place x c.next.result c.next-in-loop-x.result inside (omega arith, omega (arith, c.letters-x-end.ensures.value, c.alphabet.ensures.value))
          (c.next.ensures.value ∙ ap (λ q. next_state ps q.left x) here) (c.next-in-loop-x.ensures.value ∙ ap (λ q. next_state qs q.right x) here) (subst P rows c.meet.ensures.met) (h.searched s t f);
    }

pub returns-clause-searched : goal.returns-clause-searched
returns-clause-searched c s t f = IsSearched-row c.args.m.now.alphabet (states_of c.args.m.now.rows) (states_of c.args.n.now.rows) s t c.loop-x.search.met.items c.args.place (c.loop-x.x + 1) (omega (arith, c.letters-x-end.ensures.value, c.alphabet.ensures.value)) (c.loop-x.invariant.searched s t f)
