-- What `generate` comes to.
use Rattle.std.specs.Prelude.{◌≡◌, ℕ, List, [], ◌++◌, length, None, false, nat_lt, if◌then◌else◌, codes, decimal}
use Rattle.circ_theory.specs.Signature.{Signature}
use Rattle.circ_theory.specs.Theory.{Theory}
use Rattle.circ_proof.specs.Accepted.{Accepted}
use Rattle.circ_proof.specs.Proof.{Proof, ProofFor, steps_in}
use Rattle.circ_proof_text.specs.ProofText.{proof_text}
use Rattle.circ_read.specs.declared.cause.Cause.{Cause}
use Rattle.circ_script.specs.ReadsAsScript.{ReadsAsScript}
use Rattle.circ_script.specs.Refusing.{FirstScriptCause}
use Rattle.circ_script.specs.Script.{Script}
use Rattle.circ_script.specs.declared.job.Job.TheVariants.{Prove}
use Rattle.circ_plain_search.specs.Numbering.{Found, Proved}
use Rattle.circ_attempt.specs.RewritingSearch.{RewritingSearch}
use Rattle.circ_attempt.specs.Search.{Conduct}
use Rattle.circ_status.specs.Texts.{too_long_text, unreadable_text}
use Rattle.circ_read.specs.ReadsAs.{ReadsAs, FirstCause}
use Rattle.circ_status.specs.declared.status.Status.TheVariants as status
use Rattle.circ_found.specs.Answering.{counts_text, derives_in, found_ending}
use Rattle.circ_status.specs.Ending.{Ending, ending}
use Rattle.circ_generate.specs.Chain.{chain_theory, chain_script}

-- the search with the greatest budgets, in which no hidden goal is split and no hypothesis is a rule
abbrev pub greatest_conduct : Conduct
greatest_conduct = record { manner = record { limits = record { steps = 1000000; derives = 10000 }; split = false }; rewrite = false }

-- what is printed of the proof of a chain
abbrev pub summary_text : ℕ → Proof → List ℕ
summary_text n p =
    codes "generated " ++ decimal n ++ codes "\n" ++ counts_text (steps_in p.blocks) (derives_in p.blocks) ++ codes "accepted\n"

-- what is answered of a proof; nothing is stored
abbrev pub summary_ending : ℕ → Proof → Ending
summary_ending n p =
    if nat_lt 67108864 (length (proof_text p)) then ending (status.TooLong 3 (length (proof_text p))) (too_long_text 3) None
    else ending status.Ok (summary_text n p) None

-- what is answered by what the search finds: all but a proof as `prove` does
abbrev pub chain_ending : Signature → ℕ → Found → Ending
chain_ending sig n (Proved p) = summary_ending n p
chain_ending sig n f = found_ending sig [] f

abbrev pub unread_ending : (file place : ℕ) → Cause → Ending
unread_ending file place c = ending (status.Unreadable file place c) (unreadable_text (codes ", statement ") file place c) None

-- The chain's theory text is refused for its first cause; or it reads, and the script is refused for its first cause; or both read, and the search of the
-- script's goals, with the greatest budgets, ends so.
pub data Generates (n : ℕ) : Ending → Type 0 where
  no_theory : (e : Ending) (place : ℕ) (c : Cause) → FirstCause (chain_theory n) place c → e ≡ unread_ending 1 place c → Generates n e
  no_script : (e : Ending) (th : Theory) (place : ℕ) (c : Cause) → ReadsAs (chain_theory n) th → FirstScriptCause th Prove (chain_script n) place c
      → e ≡ unread_ending 2 place c → Generates n e
  searched : (e : Ending) (th : Theory) (sc : Script) (f : Found) → ReadsAs (chain_theory n) th → ReadsAsScript th Prove (chain_script n) sc
      → RewritingSearch th sc.blocks greatest_conduct f → e ≡ chain_ending th.signature n f → Generates n e

-- The bytes are the text of an accepted proof.
pub record IsAcceptedText (th : Theory) (bytes : List ℕ) (p : Proof) : Type 0 where
  pub text : bytes ≡ proof_text p
  pub fits : ProofFor th p
  pub accepted : Accepted th p
