use Rattle.std.proofs.Common.{◌++◌, sym, ◌∙◌}
use Rattle.circ_reports.proofs.Pieces.{parts_read, piece_read, piece_taken, fault_taken}
use Rattle.circ_reports.proofs.incoming.IncomingIntake.give.Goals as goal

pub take_waiting-requires-clause-read : goal.take_waiting-requires-clause-read
take_waiting-requires-clause-read c =
    let th = c.requires.0.theory.now in
    let bytes = c.requires.1 in
    let piece = c.args.piece.now in
    let old = c.args.self.now in
    let h = parts_read th bytes old c.requires.2.follows (λ e k. let never = c.in-Ok.ensures.again e k in cc) in
    (th, bytes ++ piece, h.0, piece_read th bytes piece h.0 old c.feed.new.self h.1 (c.in-Ok.ensures.stands th bytes h.0 h.1.read))

pub returns-in_ok-take_waiting-in-Ok : goal.returns-in_ok-take_waiting-in-Ok
returns-in_ok-take_waiting-in-Ok c start bytes t =
    let th = start.theory.now in
    let piece = c.args.piece.now in
    let told = c.in-Ok.ensures in
    let took = c.in_ok-take_waiting-in-Ok.ensures in
    piece_taken th bytes piece c.args.self.now c.take_waiting.new.self c.feed.new.self t (λ e k. let never = told.again e k in cc)
    (λ parts s. told.stands th bytes parts s) (λ parts h. took.read th (bytes ++ piece) parts h) took.none took.theory took.sound told.lines took.lines

pub returns-in-Err-Line : goal.returns-in-Err-Line
returns-in-Err-Line c start bytes t =
    let th = start.theory.now in
    let e = c.in-Err-Line.field-0 in
    let told = c.in-Err-Line.ensures in
    fault_taken th bytes c.args.piece.now c.args.self.now c.feed.new.self e t (λ m. let never = sym c.in-Err-Line.field-0-is ∙ m in cc)
    (λ parts s. let f = told.stands th bytes parts s in (f.0, f.1)) told.kept told.sound told.lines

pub returns-in-Err-Limit : goal.returns-in-Err-Limit
returns-in-Err-Limit c start bytes t =
    let th = start.theory.now in
    let e = c.in-Err-Limit.field-0 in
    let told = c.in-Err-Limit.ensures in
    fault_taken th bytes c.args.piece.now c.args.self.now c.feed.new.self e t (λ m. let never = sym c.in-Err-Limit.field-0-is ∙ m in cc)
    (λ parts s. let f = told.stands th bytes parts s in (f.0, f.1)) told.kept told.sound told.lines
