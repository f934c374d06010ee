use Rattle.std.proofs.Common.{ℕ, Option, map, String, Global, sym, subst}
use Rattle.fr_options.specs.declared.options.Options.{Options}
use Rattle.fr_options.specs.Options.{options_of}
use Rattle.frcalc.specs.Program.{sides_of, Completes, Passes}
use Rattle.frcalc.proofs.RunLaws.{completes, passes}
use Rattle.frcalc.proofs.program.run.Goals as goal

pub returns-clause-completes : goal.returns-clause-completes
returns-clause-completes g c =
    let old = sides_of g.S.Source.left g.S.Source.faults g.T.Sink.written g.T.Sink.faults c.args.input.now c.args.out.now in
    let new = sides_of g.S.Source.left g.S.Source.faults g.T.Sink.written g.T.Sink.faults c.work.new.input c.work.new.out in
    let options : Option Options = options_of (map (λ (w : String Global). w.bytes.items) c.args.words.now) in
    subst (λ (s : ℕ). Completes s options old new) (sym c.close.ensures.status) (completes c.work.result options old new c.work.ensures)

pub returns-clause-passes : goal.returns-clause-passes
returns-clause-passes g c =
    let old = sides_of g.S.Source.left g.S.Source.faults g.T.Sink.written g.T.Sink.faults c.args.input.now c.args.out.now in
    let new = sides_of g.S.Source.left g.S.Source.faults g.T.Sink.written g.T.Sink.faults c.work.new.input c.work.new.out in
    let options : Option Options = options_of (map (λ (w : String Global). w.bytes.items) c.args.words.now) in
    subst (λ (s : ℕ). Passes s options old new) (sym c.close.ensures.status) (passes c.work.result options old new c.work.ensures)
