use Rattle.std.proofs.Common.{Err, ap}
use Rattle.fr_block.proofs.ElementLaws.{smallest_name, more_states, more_back, common_alphabet, common_stands, alone_alphabet, alone_stands, fault_is}
use Rattle.fr_block.proofs.elements.Elements.element.Goals as goal

pub returns-in_err-minimize_with-clause-passed : goal.returns-in_err-minimize_with-clause-passed
returns-in_err-minimize_with-clause-passed c = λ h.
    let v = c.args.self.now in
    let a = common_alphabet c.self.inside.block v c.self.view_is c.self.inside.common c.in-Some.common c.self.invariant c.in-Some.is in
    let e = common_stands c.self.inside.block v c.self.view_is c.self.inside.common c.in-Some.common c.args.name c.self.invariant c.in-Some.is c.requires in
    let f = fault_is c.from_residual.result c.in_err-minimize_with.field-0.0 c.from_residual.ensures.1 h in
    (e.within, more_states _ v.alphabet v.system c.in-Some.common.machine.rows c.args.name c.args.name a e (c.in_err-minimize_with.ensures.passed (ap Err f)))

pub returns-in-Some-clause-ok : goal.returns-in-Some-clause-ok
returns-in-Some-clause-ok c =
    let v = c.args.self.now in
    let a = common_alphabet c.self.inside.block v c.self.view_is c.self.inside.common c.in-Some.common c.self.invariant c.in-Some.is in
    let e = common_stands c.self.inside.block v c.self.view_is c.self.inside.common c.in-Some.common c.args.name c.self.invariant c.in-Some.is c.requires in
    smallest_name _ v.alphabet v.system c.in-Some.common.machine.rows c.in_ok-minimize_with.field-0.rows c.args.name c.args.name a e c.in_ok-minimize_with.ensures.ok

pub returns-in-Some-clause-within : goal.returns-in-Some-clause-within
returns-in-Some-clause-within c =
    let v = c.args.self.now in
    let a = common_alphabet c.self.inside.block v c.self.view_is c.self.inside.common c.in-Some.common c.self.invariant c.in-Some.is in
    let e = common_stands c.self.inside.block v c.self.view_is c.self.inside.common c.in-Some.common c.args.name c.self.invariant c.in-Some.is c.requires in
    (e.within, λ h. c.in_ok-minimize_with.ensures.within (more_back _ v.alphabet v.system c.in-Some.common.machine.rows c.args.name c.args.name a e h))

pub returns-in_err-minimize-in-Some-2-clause-passed :
    goal.returns-in_err-minimize-in-Some-2-clause-passed
returns-in_err-minimize-in-Some-2-clause-passed c = λ h.
    let v = c.args.self.now in
    let a = alone_alphabet c.self.inside.block v c.self.view_is c.in_ok-machine.field-0 c.in-Some-2.machine c.in_ok-machine.ensures.alphabet c.in-Some-2.is in
    let e = alone_stands c.self.inside.block v c.self.view_is c.in_ok-machine.field-0 c.in-Some-2.machine c.args.name c.in_ok-machine.ensures.names c.in-Some-2.is in
    let f = fault_is c.from_residual-in_err-minimize-in-Some-2.result c.in_err-minimize-in-Some-2.field-0.0 c.from_residual-in_err-minimize-in-Some-2.ensures.1 h in
    (e.within, more_states _ v.alphabet v.system c.in-Some-2.machine.rows 0 c.args.name a e (c.in_err-minimize-in-Some-2.ensures.passed (ap Err f)))

pub returns-in_ok-minimize-in-Some-2-clause-ok : goal.returns-in_ok-minimize-in-Some-2-clause-ok
returns-in_ok-minimize-in-Some-2-clause-ok c =
    let v = c.args.self.now in
    let a = alone_alphabet c.self.inside.block v c.self.view_is c.in_ok-machine.field-0 c.in-Some-2.machine c.in_ok-machine.ensures.alphabet c.in-Some-2.is in
    let e = alone_stands c.self.inside.block v c.self.view_is c.in_ok-machine.field-0 c.in-Some-2.machine c.args.name c.in_ok-machine.ensures.names c.in-Some-2.is in
    smallest_name _ v.alphabet v.system c.in-Some-2.machine.rows c.in_ok-minimize-in-Some-2.field-0.rows 0 c.args.name a e c.in_ok-minimize-in-Some-2.ensures.ok

pub returns-in_ok-minimize-in-Some-2-clause-within :
    goal.returns-in_ok-minimize-in-Some-2-clause-within
returns-in_ok-minimize-in-Some-2-clause-within c =
    let v = c.args.self.now in
    let a = alone_alphabet c.self.inside.block v c.self.view_is c.in_ok-machine.field-0 c.in-Some-2.machine c.in_ok-machine.ensures.alphabet c.in-Some-2.is in
    let e = alone_stands c.self.inside.block v c.self.view_is c.in_ok-machine.field-0 c.in-Some-2.machine c.args.name c.in_ok-machine.ensures.names c.in-Some-2.is in
    (e.within, λ h. c.in_ok-minimize-in-Some-2.ensures.within (more_back _ v.alphabet v.system c.in-Some-2.machine.rows 0 c.args.name a e h))
