use Rattle.std.proofs.Common.{◌∙◌, ◌++◌, ◌∷◌, length, length-append, refl, ap, arith}
use Rattle.circ_file.specs.declared.reader.FileReader.{FileReader}
use Rattle.circ_file.proofs.Standing.{rest_taken}
use Rattle.circ_file.proofs.Cutting.{none_read, line_read, line_fault, line_shown, all_read}
use Rattle.circ_file.proofs.reader.FileReader.feed_lines.Goals as goal

pub loop-line-init : goal.loop-line-init
loop-line-init c = record { reader = c.requires.reader; room = omega arith; fault = refl; read = none_read c.args.self.now c.args.piece.now }

pub returns-in-Err-clause-stands : goal.returns-in-Err-clause-stands
returns-in-Err-clause-stands c th x handed s =
    let r = c.loop-line.invariant.read in
    let told = c.in-Err.ensures.stands th (x ++ r.front) handed (r.stands th x handed s) in (
      λ later. line_fault th x c.args.piece.now r.front c.loop-line.rest.now c.in-Some.line.now c.in-Some.after.now later c.in-Err.fault r.cut
          c.in-Some.ensures.whole (told.0 (c.in-Some.after.now ++ later)),
      line_shown th x c.args.piece.now r.front c.loop-line.rest.now c.in-Some.line.now c.in-Some.after.now c.in-Err.fault r.cut c.in-Some.ensures.whole told.1,
    )

pub loop-line-preserved : goal.loop-line-preserved
loop-line-preserved c =
    let kept = c.loop-line.invariant in
    let told = c.in_default-end_line.ensures in
    let rest = c.loop-line.rest.now in
    let line = c.in-Some.line.now in
    let after = c.in-Some.after.now in
    record {
      reader = told.reader;
      room = omega (arith, kept.room, told.lines, ap length c.in-Some.ensures.whole, length-append line (10 ∷ after));
      fault = told.fault ∙ kept.fault;
      read = line_read c.args.self.now c.loop-line.self c.end_line.new.self c.args.piece.now rest line after kept.read c.in-Some.ensures.whole told.stands;
    }

pub returns-in-Ok-clause-stands : goal.returns-in-Ok-clause-stands
returns-in-Ok-clause-stands c th x handed s =
    let mid = c.loop-line.self in
    let new : FileReader = record mid { rest = c.extend_from_slice.new.self } in
    let none = c.in_default.ensures in
    all_read c.args.self.now mid new c.args.piece.now c.loop-line.rest.now c.loop-line.invariant.read
    (λ t y h u. rest_taken t y c.loop-line.rest.now h mid new u none refl refl c.in-Ok.ensures.items u.fault) th x handed s
