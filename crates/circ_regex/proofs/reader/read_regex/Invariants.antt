use Rattle.std.proofs.Common.{◌≡◌, drop}
use Rattle.circ_regex.specs.Frames.{on_bytes, no_frames, frames_of}
use Rattle.circ_regex.proofs.reader.read_regex.Given as goal

abbrev pub invariant-loop-byte : goal.invariant-loop-byte
invariant-loop-byte l = on_bytes (drop l.byte-index l.bytes) (frames_of l.reader) ≡ on_bytes l.bytes no_frames
