-- The texts of refusals.
use Rattle.std.specs.Prelude.{ℕ, List, codes}
use Rattle.circ_files.specs.Refusals.{statement_places, proof_places, text_of_refusal}
use Rattle.circ_status.specs.declared.status.Status.{Status}
use Rattle.circ_top.specs.Command.{Command, Check, Upgrade, Expand}

-- the places of a file's text, by the command that takes the file: lines of a proof, else statements
abbrev pub place_text : Command → (file : ℕ) → List ℕ
place_text (Check report theory proof) = proof_places
place_text (Upgrade theory proof new) = proof_places
place_text (Expand theory proof goal derivatives) = proof_places
place_text _ = statement_places

abbrev pub usage_text : List ℕ
usage_text = codes "usage: circ [--steps N] [--derives N] COMMAND WORD...\n"

-- the text of a command's refusal
abbrev pub refusal_text : Command → Status → List ℕ
refusal_text c s = text_of_refusal (place_text c) s
