-- A text that is written, and what is answered where it is not written whole.
use Rattle.std.specs.Prelude.{◌≡◌, ◌≢◌, ℕ, List, [], ◌++◌, true}
use Rattle.circ_outer.specs.Count.{Rose}
use Rattle.circ_outer.specs.Sink.{SinkState}
use Rattle.circ_status.specs.declared.status.Status.{Status}
use Rattle.circ_status.specs.declared.status.Status.TheVariants as status

-- the sink got exactly this text, without a fault
pub record Prints (text : List ℕ) (start end : SinkState) : Type 0 where
  pub quiet : end.count ≡ start.count
  pub printed : start.tells ≡ true → end.written ≡ start.written ++ text

-- the sink got the first bytes of this text, perhaps all
abbrev pub PrintsPart : (text : List ℕ) → (start end : SinkState) → Type 0
PrintsPart text start end =
    start.tells ≡ true → (part : List ℕ) × ((rest : List ℕ) × ((text ≡ part ++ rest) × (end.written ≡ start.written ++ part)))

-- the sink got the first bytes of this text, and not all of them
abbrev pub PrintsFront : (text : List ℕ) → (start end : SinkState) → Type 0
PrintsFront text start end =
    start.tells ≡ true
    → (part : List ℕ) × ((rest : List ℕ) × ((rest ≢ []) × ((text ≡ part ++ rest) × (end.written ≡ start.written ++ part))))

-- Writing a text for a status: it is printed; or a part of it, not the whole, and the answer says why; or there was no memory for the text itself.
pub data Delivers (text : List ℕ) (start end : SinkState) (s : Status) : Status → Type 0 where
  whole : Prints text start end → Delivers text start end s s
  write_failed : (n : ℕ) → text ≢ [] → n ≡ end.count → Rose start.count end.count → PrintsFront text start end → Delivers text start end s (status.WriteFault n)
  memory_wanted : end.count ≡ start.count → PrintsFront text start end → Delivers text start end s status.Memory
  text_wanted : Prints [] start end → Delivers text start end s status.Memory
