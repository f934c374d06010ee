use Rattle.std.proofs.Common.{Option, String, Global, map, refl}
use Rattle.fr_options.specs.declared.options.Options.{Options}
use Rattle.fr_options.specs.Options.{options_of}
use Rattle.frcalc.specs.Program.{sides_of}
use Rattle.frcalc.proofs.RunLaws.{writes, given_up}
use Rattle.frcalc.proofs.program.work.Goals as goal

pub returns-in-Ok-evaluate : goal.returns-in-Ok-evaluate
returns-in-Ok-evaluate g c =
    let old = sides_of g.S.Source.left g.S.Source.faults g.T.Sink.written g.T.Sink.faults c.args.input.now c.args.out.now in
    let new = sides_of g.S.Source.left g.S.Source.faults g.T.Sink.written g.T.Sink.faults c.take_script.new.input c.write.new.out in
    let options : Option Options = options_of (map (λ (w : String Global). w.bytes.items) c.args.words.now) in
    writes c.write.result options c.in-Ok.options old new c.in-Ok-take_script.script c.in-Ok-evaluate.evaluation c.in-Ok.ensures.options c.in-Ok-take_script.ensures.taken c.in-Ok-evaluate.ensures.ok
    c.write.ensures

pub returns : goal.returns
returns g c =
    let old = sides_of g.S.Source.left g.S.Source.faults g.T.Sink.written g.T.Sink.faults c.args.input.now c.args.out.now in
    let new = sides_of g.S.Source.left g.S.Source.faults g.T.Sink.written g.T.Sink.faults c.take_script.new.input c.args.out.now in
    let options : Option Options = options_of (map (λ (w : String Global). w.bytes.items) c.args.words.now) in
    given_up options c.in-Ok.options old new c.in-Ok-take_script.script c.in-Ok.ensures.options c.in-Ok-take_script.ensures.taken (record { written = refl; write_faults = refl })
