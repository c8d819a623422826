-- What the steps of the reader answer.
use Rattle.std.specs.Prelude.{◌≡◌, ℕ, ◌<◌, ◌≤◌, length, map, Result, Ok, Err}
use Rattle.circ_lexer.specs.declared.fault.LexFault.{LexFault}
use Rattle.circ_lexer.specs.declared.fault.LexFault.TheVariants as lex
use Rattle.circ_auto.specs.declared.fault.AutoFault.{AutoFault}
use Rattle.circ_auto.specs.declared.fault.AutoFault.TheVariants.{Statement, Memory}
use Rattle.circ_auto.specs.declared.reader.Opening as made
use Rattle.circ_auto.specs.Machine.{AreAllDifferent}
use Rattle.circ_auto.specs.Parts.{Part, Opening}
use Rattle.circ_auto.specs.Text.{byte_cause}

-- the part as it is seen, or its cause; or memory ran out
abbrev pub GivesPart : {A B : Type 0} → (seen : A → B) → Result A AutoFault → Part B → Type 0
GivesPart seen (Ok a) p = p ≡ Ok (seen a)
GivesPart seen (Err (Statement n c)) p = p ≡ Err (n, c)
GivesPart seen (Err Memory) p = Unit {0}

abbrev pub byte_fault : LexFault → AutoFault
byte_fault lex.Memory = Memory
byte_fault f = Statement 0 (byte_cause f)

abbrev pub opening_of : made.Opening → Opening
opening_of o = record { letters = map (λ w. w.items) o.letters.items; states = o.states; start = o.start; ahead = o.ahead }

-- letters and states within their limits
pub record IsOpening (o : Opening) : Type 0 where
  pub some_letters : 0 < length o.letters
  pub few_letters : length o.letters ≤ 64
  pub different : AreAllDifferent o.letters
  pub few_states : o.states ≤ 1000
  pub start : o.start < o.states
