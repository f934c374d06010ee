use Rattle.std.proofs.Common.{arith, ◌≡◌, ◌<◌, ◌≤◌, length, get_or, ap, sym, ◌∙◌}
use Rattle.fr_model.specs.Automata.{next_state}
use Rattle.fr_machine.specs.Machine.{MachineView}
use Rattle.fr_machine.specs.Rows.{states_of}
use Rattle.fr_growth.specs.Knots.{last_of}
use Rattle.fr_growth.proofs.RowLaws.{IsReached-next}
use Rattle.fr_growth.proofs.KnotLaws.{read_at, read_last, walk_place, path_letter, walk_looked, met_looked, looked_more, few_looked, listed_looked, work_looked, letter_grows}
use Rattle.fr_growth.proofs.knots.Descent.step.Goals as goal

pub next-requires-clause-letter : goal.next-requires-clause-letter
next-requires-clause-letter c =
    let m = c.machine-machine.ensures.valid in
    let d = c.args.m.now.alphabet in
    let rows = c.args.m.now.rows in
    let s = c.args.self.now in
    let h = c.requires.descent in
    let a = c.index-place.result.now in
    let r = c.index-row.result.now in
    let x = c.index-letter.result.now in
    let place : a ≡ last_of s.walk.items = read_last s.walk.items c.len.result a c.requires.some (omega (arith, c.len.ensures, s.walk.ok.0)) c.index-place.ensures in
    let on : a < length s.path.items = omega (arith, place, walk_place d rows m s.path.items s.bounds.items s.walk.items s.letters.items h.walk c.requires.some) in
    let row : r ≡ get_or s.path.items a 0 = read_at s.path.items a r on c.index-row.ensures in
    let below : r < length rows = omega (arith, row, h.path.row a on) in
    let letter : x ≡ get_or s.letters.items r 0 = read_at s.letters.items r x (omega (arith, below, h.met.letters_size)) c.index-letter.ensures in
    let least : 1 ≤ x = omega (arith, letter, ap (λ v. get_or s.letters.items v 0) row, path_letter d rows m s.path.items s.places.items s.numbers.items s.letters.items s.count a h.path h.met h.few on) in
    let most : x ≤ d = omega (arith, c.if-letter-letters.false, c.letters.ensures.value, c.alphabet.ensures.value, ap (λ (v : MachineView). v.alphabet) c.machine-machine.ensures.value) in
    (least, omega (arith, most, ap (λ (v : MachineView). v.alphabet) c.machine-machine.ensures.value))

pub meet-requires-clause-reached : goal.meet-requires-clause-reached
meet-requires-clause-reached c =
    let m = c.machine-machine.ensures.valid in
    let d = c.args.m.now.alphabet in
    let rows = c.args.m.now.rows in
    let s = c.args.self.now in
    let h = c.requires.descent in
    let a = c.index-place.result.now in
    let r = c.index-row.result.now in
    let x = c.index-letter.result.now in
    let place : a ≡ last_of s.walk.items = read_last s.walk.items c.len.result a c.requires.some (omega (arith, c.len.ensures, s.walk.ok.0)) c.index-place.ensures in
    let on : a < length s.path.items = omega (arith, place, walk_place d rows m s.path.items s.bounds.items s.walk.items s.letters.items h.walk c.requires.some) in
    let row : r ≡ get_or s.path.items a 0 = read_at s.path.items a r on c.index-row.ensures in
    let below : r < length rows = omega (arith, row, h.path.row a on) in
    let letter : x ≡ get_or s.letters.items r 0 = read_at s.letters.items r x (omega (arith, below, h.met.letters_size)) c.index-letter.ensures in
    let least : 1 ≤ x = omega (arith, letter, ap (λ v. get_or s.letters.items v 0) row, path_letter d rows m s.path.items s.places.items s.numbers.items s.letters.items s.count a h.path h.met h.few on) in
    let most : x ≤ d = omega (arith, c.if-letter-letters.false, c.letters.ensures.value, c.alphabet.ensures.value, ap (λ (v : MachineView). v.alphabet) c.machine-machine.ensures.value) in
    let to : c.next.result ≡ next_state (states_of rows) r x = rw c.machine-machine.ensures.value at c.next.ensures.value in
    IsReached-next d rows (get_or s.path.items a 0) x c.next.result (least, most) (to ∙ ap (λ z. next_state (states_of rows) z x) row)

pub index_mut-requires : goal.index_mut-requires
index_mut-requires c =
    let m = c.machine-machine.ensures.valid in
    let d = c.args.m.now.alphabet in
    let rows = c.args.m.now.rows in
    let s = c.args.self.now in
    let h = c.requires.descent in
    let a = c.index-place.result.now in
    let r = c.index-row.result.now in
    let x = c.index-letter.result.now in
    let place : a ≡ last_of s.walk.items = read_last s.walk.items c.len.result a c.requires.some (omega (arith, c.len.ensures, s.walk.ok.0)) c.index-place.ensures in
    let on : a < length s.path.items = omega (arith, place, walk_place d rows m s.path.items s.bounds.items s.walk.items s.letters.items h.walk c.requires.some) in
    let row : r ≡ get_or s.path.items a 0 = read_at s.path.items a r on c.index-row.ensures in
    let below : r < length rows = omega (arith, row, h.path.row a on) in
    omega (arith, below, c.in_ok-meet.ensures.descent.met.letters_size, c.meet.new.self.letters.ok.0)

pub returns-clause-descent : goal.returns-clause-descent
returns-clause-descent c =
    let m = c.machine-machine.ensures.valid in
    let d = c.args.m.now.alphabet in
    let rows = c.args.m.now.rows in
    let s = c.args.self.now in
    let h = c.requires.descent in
    let a = c.index-place.result.now in
    let r = c.index-row.result.now in
    let x = c.index-letter.result.now in
    let place : a ≡ last_of s.walk.items = read_last s.walk.items c.len.result a c.requires.some (omega (arith, c.len.ensures, s.walk.ok.0)) c.index-place.ensures in
    let on : a < length s.path.items = omega (arith, place, walk_place d rows m s.path.items s.bounds.items s.walk.items s.letters.items h.walk c.requires.some) in
    let row : r ≡ get_or s.path.items a 0 = read_at s.path.items a r on c.index-row.ensures in
    let below : r < length rows = omega (arith, row, h.path.row a on) in
    let letter : x ≡ get_or s.letters.items r 0 = read_at s.letters.items r x (omega (arith, below, h.met.letters_size)) c.index-letter.ensures in
    let least : 1 ≤ x = omega (arith, letter, ap (λ v. get_or s.letters.items v 0) row, path_letter d rows m s.path.items s.places.items s.numbers.items s.letters.items s.count a h.path h.met h.few on) in
    let most : x ≤ d = omega (arith, c.if-letter-letters.false, c.letters.ensures.value, c.alphabet.ensures.value, ap (λ (v : MachineView). v.alphabet) c.machine-machine.ensures.value) in
    let to : c.next.result ≡ next_state (states_of rows) r x = rw c.machine-machine.ensures.value at c.next.ensures.value in
    let s' = c.meet.new.self in
    let h' = c.in_ok-meet.ensures.descent in
    let at : get_or s'.path.items a 0 ≡ r = c.in_ok-meet.ensures.row ∙ sym row in
    let has : get_or s'.letters.items r 0 ≡ x = c.in_ok-meet.ensures.letters r (omega (arith, least, letter)) ∙ sym letter in
    record {
      path = h'.path;
      knots = h'.knots;
      walk = walk_looked d rows m s'.path.items s'.bounds.items s'.walk.items s'.places.items s'.numbers.items s'.letters.items s'.count a r x h'.path h'.walk h'.met h'.looked h'.few c.in_ok-meet.ensures.place at has least most;
      met = met_looked d rows m s'.path.items s'.bounds.items s'.walk.items s'.places.items s'.numbers.items s'.letters.items s'.count a r x h'.path h'.walk h'.met h'.looked h'.few c.in_ok-meet.ensures.place at has least most;
      looked = looked_more d rows m s'.path.items s'.bounds.items s'.walk.items s'.places.items s'.numbers.items s'.letters.items s'.count a r x h'.path h'.walk h'.met h'.looked h'.few c.in_ok-meet.ensures.place at has least most (rw to at c.in_ok-meet.ensures.settled);
      numbered = h'.numbered;
      few = few_looked d rows m s'.path.items s'.bounds.items s'.walk.items s'.places.items s'.numbers.items s'.letters.items s'.count a r x h'.path h'.walk h'.met h'.looked h'.few c.in_ok-meet.ensures.place at has least most;
      listed = listed_looked d rows m s'.path.items s'.bounds.items s'.walk.items s'.places.items s'.numbers.items s'.letters.items s'.count a r x h'.path h'.walk h'.met h'.looked h'.few c.in_ok-meet.ensures.place at has least most s'.order.items h'.listed;
    }

pub returns-clause-less : goal.returns-clause-less
returns-clause-less c =
    let m = c.machine-machine.ensures.valid in
    let d = c.args.m.now.alphabet in
    let rows = c.args.m.now.rows in
    let s = c.args.self.now in
    let h = c.requires.descent in
    let a = c.index-place.result.now in
    let r = c.index-row.result.now in
    let x = c.index-letter.result.now in
    let place : a ≡ last_of s.walk.items = read_last s.walk.items c.len.result a c.requires.some (omega (arith, c.len.ensures, s.walk.ok.0)) c.index-place.ensures in
    let on : a < length s.path.items = omega (arith, place, walk_place d rows m s.path.items s.bounds.items s.walk.items s.letters.items h.walk c.requires.some) in
    let row : r ≡ get_or s.path.items a 0 = read_at s.path.items a r on c.index-row.ensures in
    let below : r < length rows = omega (arith, row, h.path.row a on) in
    let letter : x ≡ get_or s.letters.items r 0 = read_at s.letters.items r x (omega (arith, below, h.met.letters_size)) c.index-letter.ensures in
    let least : 1 ≤ x = omega (arith, letter, ap (λ v. get_or s.letters.items v 0) row, path_letter d rows m s.path.items s.places.items s.numbers.items s.letters.items s.count a h.path h.met h.few on) in
    let most : x ≤ d = omega (arith, c.if-letter-letters.false, c.letters.ensures.value, c.alphabet.ensures.value, ap (λ (v : MachineView). v.alphabet) c.machine-machine.ensures.value) in
    let s' = c.meet.new.self in
    let h' = c.in_ok-meet.ensures.descent in
    let at : get_or s'.path.items a 0 ≡ r = c.in_ok-meet.ensures.row ∙ sym row in
    let has : get_or s'.letters.items r 0 ≡ x = c.in_ok-meet.ensures.letters r (omega (arith, least, letter)) ∙ sym letter in
    omega (arith, c.in_ok-meet.ensures.work, work_looked d rows m s'.path.items s'.bounds.items s'.walk.items s'.places.items s'.numbers.items s'.letters.items s'.count a r x h'.path h'.walk h'.met h'.looked h'.few c.in_ok-meet.ensures.place at has least most)

pub returns-clause-letters : goal.returns-clause-letters
returns-clause-letters c =
    let m = c.machine-machine.ensures.valid in
    let d = c.args.m.now.alphabet in
    let rows = c.args.m.now.rows in
    let s = c.args.self.now in
    let h = c.requires.descent in
    let a = c.index-place.result.now in
    let r = c.index-row.result.now in
    let x = c.index-letter.result.now in
    let place : a ≡ last_of s.walk.items = read_last s.walk.items c.len.result a c.requires.some (omega (arith, c.len.ensures, s.walk.ok.0)) c.index-place.ensures in
    let on : a < length s.path.items = omega (arith, place, walk_place d rows m s.path.items s.bounds.items s.walk.items s.letters.items h.walk c.requires.some) in
    let row : r ≡ get_or s.path.items a 0 = read_at s.path.items a r on c.index-row.ensures in
    let below : r < length rows = omega (arith, row, h.path.row a on) in
    let letter : x ≡ get_or s.letters.items r 0 = read_at s.letters.items r x (omega (arith, below, h.met.letters_size)) c.index-letter.ensures in
    let least : 1 ≤ x = omega (arith, letter, ap (λ v. get_or s.letters.items v 0) row, path_letter d rows m s.path.items s.places.items s.numbers.items s.letters.items s.count a h.path h.met h.few on) in
    let most : x ≤ d = omega (arith, c.if-letter-letters.false, c.letters.ensures.value, c.alphabet.ensures.value, ap (λ (v : MachineView). v.alphabet) c.machine-machine.ensures.value) in
    let s' = c.meet.new.self in
    let h' = c.in_ok-meet.ensures.descent in
    let at : get_or s'.path.items a 0 ≡ r = c.in_ok-meet.ensures.row ∙ sym row in
    let has : get_or s'.letters.items r 0 ≡ x = c.in_ok-meet.ensures.letters r (omega (arith, least, letter)) ∙ sym letter in
    λ u l. omega (arith, l, c.in_ok-meet.ensures.letters u l, letter_grows d rows m s'.path.items s'.bounds.items s'.walk.items s'.places.items s'.numbers.items s'.letters.items s'.count a r x h'.path h'.walk h'.met h'.looked h'.few c.in_ok-meet.ensures.place at has least most u)
