-- No run is without an outcome.
use Rattle.std.proofs.Common.{◌≡◌, ◌<◌, ◌≤◌, ◌+◌, ◌-◌, ◌⊎◌, ℕ, List, length, inl, inr, refl, arith, Option, Some, None}
use Rattle.std.specs.Prelude.{IsSome}
use Rattle.circ_theory.specs.Theory.{Theory}
use Rattle.circ_theory.specs.Goal.{Goal}
use Rattle.circ_grammar.specs.FirstBad.{LineFault, Line_fault, Limit_fault}
use Rattle.circ_proof.specs.Proof.{Proof, ProofFor}
use Rattle.circ_proof.specs.Accepted.{Accepted, FirstFail}
use Rattle.circ_proof_text.specs.ProofText.{ReadsAsProof, FirstCause}
use Rattle.circ_read.specs.ReadsAs.{ReadsAs, ReadOrRefused}
use Rattle.circ_read.specs.declared.cause.Cause.{Cause}
use Rattle.circ_read.specs.declared.cause.Cause.TheVariants as cause
use Rattle.circ_script.specs.ReadsAsScript.{ReadsAsScript, ScriptOrCause}
use Rattle.circ_script.specs.declared.job.Job.{Job}
use Rattle.circ_script.specs.declared.job.Job.TheVariants as job
use Rattle.circ_reports.specs.Check.{report_text, no_theory, no_proof, refused, accepted}
use Rattle.circ_top.specs.Command.{Command, Check, Prove, Show, Contexts, Reduce, Same, Differ, Trace, Regex, Upgrade, Expand, Library, Generate, Asks}
use Rattle.circ_files.specs.Files.{Held, Refusal, RefusesFile, Holds}
use Rattle.circ_top.specs.InMemory.{HoldsFilesOf, HoldsFiles}
use Rattle.circ_plain_search.specs.Numbering.{Found}
use Rattle.circ_attempt.specs.RewritingSearch.{RewritingSearch}
use Rattle.circ_attempt.specs.Search.{Conduct}
use Rattle.circ_status.specs.Ending.{Stored, Ending}
use Rattle.circ_found.specs.Answering.{found_ending}
use Rattle.circ_top.specs.Outcome.{Outcome, usage, command}
use Rattle.circ_files.specs.ProofFile.{ProofRefusal}
use Rattle.circ_reports.specs.Reduce.{reduced, results_text, not_reduced, all_reduced}
use Rattle.circ_reports.specs.Reduce as reduce
use Rattle.circ_search.specs.Plain.{conduct_with}
use Rattle.circ_auto.specs.Text.{ReadsAsAutomaton}
use Rattle.circ_reports.specs.Same.{AutomatonRefusal, SecondRefusal, ReadsOver, compared_status, compared_text, no_first, no_second, compared}
use Rattle.circ_reports.proofs.SameDecides.{AutomataDecided, first_decides, second_decides, compared_decides}
use Rattle.circ_refute.specs.PlainRefutation.{refutations, goals_in}
use Rattle.circ_found.specs.Differing.{decision_ending}
use Rattle.circ_trace.proofs.Traces.{some_answer as some_trace}
use Rattle.circ_top.specs.Scripted.{goals_done}
use Rattle.circ_top.specs.Scripted as scripted
use Rattle.circ_regex.specs.Lang.{LANG}
use Rattle.circ_top.specs.Regex.{equality_goals, no_left, no_right, both_read}
use Rattle.circ_reports.specs.Upgrade.{upgraded_text, upgraded_file, given_anew}
use Rattle.circ_reports.specs.Upgrade as upgrade
use Rattle.circ_reports.specs.Expand.{expanded, not_written, written_out}
use Rattle.circ_reports.specs.Expand as expand
use Rattle.circ_reports.specs.PlainProof.{ReadsAsPlainProof, PlainProofRefusal, has_condition}
use Rattle.circ_reports.specs.PlainProof as plain
use Rattle.circ_reports.proofs.ExpandEnds.{text_or_none}
use Rattle.circ_reports.proofs.PlainProofs.{plain_or_word}
use Rattle.circ_reports.specs.Contexts.{not_listed, listed}
use Rattle.circ_show.specs.PlacesText.{place_lines}
use Rattle.circ_plain_search.proofs.Existing.{some_set}
use Rattle.circ_generate.specs.Chain.{chain_theory, chain_script}
use Rattle.circ_generate.specs.Generating.{Generates, greatest_conduct, chain_ending, unread_ending}
use Rattle.circ_generate.specs.Generating as generating
use Rattle.circ_files.specs.ScriptFile.{ScriptRefusal}
use Rattle.circ_reports.specs.Show.{not_shown, shown}
use Rattle.circ_status.specs.Texts.{refused_text}
use Rattle.circ_top.specs.Refusals.{usage_text, refusal_text}
use Rattle.circ_files.specs.TheoryFile.{TheoryRefusal}
use Rattle.circ_files.specs.declared.files.TheConstants.{MOST_BYTES}
use Rattle.circ_reports.specs.declared.report.Report.{Report}
use Rattle.circ_turn.specs.declared.search.Limits.{Limits}
use Rattle.circ_status.specs.declared.status.Status.{Status}
use Rattle.circ_status.specs.declared.status.Status.TheVariants as status
use Rattle.circ_reports.proofs.Ends.{forms_or_end}
use Rattle.circ_top.proofs.RegexOutcomes.{short_or_long, word_decides}
use Rattle.circ_top.proofs.TheoryTexts.{has_text}

-- a file that holds something reads as it should, or it refuses the command
file_decides : {X : Type 0} (held : Held) (file : ℕ) (name : List ℕ) (N : Refusal) (R : List ℕ → X → Type 0) → IsSome (held name)
    → ((bytes : List ℕ) → ((x : X) → R bytes x → ⊥) → ((place : ℕ) (c : Cause) → N place c bytes → ⊥) → ⊥)
    → ((x : X) → Holds held name (λ bytes. R bytes x) → ⊥) → ((s : Status) → RefusesFile held file name N s → ⊥) → ⊥
file_decides held file name N R some decides no_read no_refusal = go (held name) refl some
  where
    sized : (bytes : List ℕ) → held name ≡ Some bytes → (length bytes ≤ MOST_BYTES) ⊎ (MOST_BYTES < length bytes) → ⊥
    sized bytes e (inl short) = decides bytes
        (λ x r. no_read x (record { bytes = bytes; bytes_are = e; short = short; are = r }))
        (λ place c n. no_refusal (status.Unreadable file place c) (refl, record { bytes = bytes; bytes_are = e; short = short; are = n }))
    sized bytes e (inr long) = no_refusal (status.TooLong file (MOST_BYTES + 1)) (
      refl,
      record {
        bytes = bytes;
        bytes_are = e;
        past = omega arith;
        within_piece = omega arith;
        within_file = omega (arith, long);
      },
    )

    go : (o : Option (List ℕ)) → held name ≡ o → IsSome o → ⊥
    go (Some bytes) e i = sized bytes e (short_or_long MOST_BYTES (length bytes))
    go None e i = cc

-- What laws say: each proof is accepted or has a first failure, and bytes read as a proof or have a first bad line.
pub record ProofsDecided : Type 0 where
  pub verdict : (th : Theory) (p : Proof) → ProofFor th p → ((n : ℕ) → FirstFail th p n → ⊥) → (Accepted th p → ⊥) → ⊥
  pub reading : (th : Theory) (bytes : List ℕ) → ((p : Proof) → ReadsAsProof th bytes p → ⊥) → ((f : LineFault) → FirstCause th bytes f → ⊥) → ⊥

pub proofs_decided : ((th : Theory) (p : Proof) → ProofFor th p → ((n : ℕ) → FirstFail th p n → ⊥) → (Accepted th p → ⊥) → ⊥)
    → ((th : Theory) (bytes : List ℕ) → ((p : Proof) → ReadsAsProof th bytes p → ⊥) → ((f : LineFault) → FirstCause th bytes f → ⊥) → ⊥) → ProofsDecided
proofs_decided v r = record { verdict = v; reading = r }

no_fault_left : (th : Theory) (bytes : List ℕ) → ((place : ℕ) (c : Cause) → ProofRefusal th place c bytes → ⊥) → (f : LineFault) → FirstCause th bytes f → ⊥
no_fault_left th bytes h (Line_fault n) f = h n cause.Line f
no_fault_left th bytes h (Limit_fault n) f = h n cause.LineLimit f

module _ (reads : (bytes : List ℕ) → ReadOrRefused bytes) (proofs : ProofsDecided)
    (scripts : (th : Theory) (job : Job) (bytes : List ℕ) → ScriptOrCause th job bytes)
    (automata : AutomataDecided)
    (searches : (th : Theory) (blocks : List (List Goal)) (conduct : Conduct) → ((f : Found) → RewritingSearch th blocks conduct f → ⊥) → ⊥) (words : List (List ℕ)) (held : Held)
    (none_is : (s : Status) (text : List ℕ) (stored : Option Stored) → Outcome words held s text stored → ⊥) where
  no_check : (report : Report) (theory proof : List ℕ) → Asks words (Check report theory proof) → HoldsFilesOf held (Check report theory proof) → ⊥
  no_check report theory proof i h = file_decides held 1 theory TheoryRefusal ReadsAs h.0 reads
      (λ th rt. file_decides held 2 proof (ProofRefusal th) (ReadsAsProof th) h.1
      (λ bytes no_proof_is no_refusal. proofs.reading th bytes no_proof_is (no_fault_left th bytes no_refusal))
      (λ p rp. proofs.verdict th p rp.are.proof_for
      (λ n f. none_is (status.Refused n) (refused_text n) None
      (command (Check report theory proof) (status.Refused n) (refused_text n) None i (refused n th p rt rp f, refl)))
      (λ a. let text : List ℕ = report_text report th.signature p a.0 in
      none_is status.Ok text None (command (Check report theory proof) status.Ok text None i (accepted th p a.0 rt rp a.1, refl))))
      (λ s x. let text : List ℕ = refusal_text (Check report theory proof) s in none_is s text None
      (command (Check report theory proof) s text None i (no_proof s th rt x, refl))))
      (λ s x. let text : List ℕ = refusal_text (Check report theory proof) s in none_is s text None
      (command (Check report theory proof) s text None i (no_theory s x, refl)))

  no_show : (theory : List ℕ) → Asks words (Show theory) → HoldsFilesOf held (Show theory) → ⊥
  no_show theory i h = file_decides held 1 theory TheoryRefusal ReadsAs h reads
      (λ th rt. has_text th (λ text x. none_is status.Ok text None (command (Show theory) status.Ok text None i (shown th text rt x, refl))))
      (λ s x. let text : List ℕ = refusal_text (Show theory) s in none_is s text None (command (Show theory) s text None i (not_shown s x, refl)))

  no_reduce : (budget : ℕ) (theory script : List ℕ) → Asks words (Reduce budget theory script) → HoldsFilesOf held (Reduce budget theory script) → ⊥
  no_reduce budget theory script i h = file_decides held 1 theory TheoryRefusal ReadsAs h.0 reads
      (λ th rt. file_decides held 2 script (ScriptRefusal th job.Reduce) (ReadsAsScript th job.Reduce) h.1 (scripts th job.Reduce)
      (λ q rq. forms_or_end budget (reduced th budget q.terms)
      (λ results left e. let text : List ℕ = results_text th.signature results (budget - left) in none_is status.Ok text None
      (command (Reduce budget theory script) status.Ok text None i (all_reduced th q results left rt rq e, refl)))
      (λ s e. let text : List ℕ = refusal_text (Reduce budget theory script) s in none_is s text None
      (command (Reduce budget theory script) s text None i (not_reduced s th q rt rq e, refl))))
      (λ s x. let text : List ℕ = refusal_text (Reduce budget theory script) s in none_is s text None
      (command (Reduce budget theory script) s text None i (reduce.no_script s th rt x, refl))))
      (λ s x. let text : List ℕ = refusal_text (Reduce budget theory script) s in none_is s text None
      (command (Reduce budget theory script) s text None i (reduce.no_theory s x, refl)))

  no_same : (first second : List ℕ) → Asks words (Same first second) → HoldsFilesOf held (Same first second) → ⊥
  no_same first second i h = file_decides held 1 first AutomatonRefusal ReadsAsAutomaton h.0 (first_decides automata)
      (λ m rm. file_decides held 2 second (SecondRefusal m) (ReadsOver m) h.1 (second_decides automata m)
      (λ n rn. compared_decides m n
      (λ o c. none_is (compared_status o) (compared_text m o) None
      (command (Same first second) (compared_status o) (compared_text m o) None i (compared m n o rm rn c, refl))))
      (λ s x. let text : List ℕ = refusal_text (Same first second) s in none_is s text None
      (command (Same first second) s text None i (no_second s m rm x, refl))))
      (λ s x. let text : List ℕ = refusal_text (Same first second) s in none_is s text None
      (command (Same first second) s text None i (no_first s x, refl)))

  no_prove : (limits : Limits) (theory script proof : List ℕ) → Asks words (Prove limits theory script proof)
      → HoldsFilesOf held (Prove limits theory script proof) → ⊥
  no_prove limits theory script proof i h = file_decides held 1 theory TheoryRefusal ReadsAs h.0 reads
      (λ th rt. file_decides held 2 script (ScriptRefusal th job.Prove) (ReadsAsScript th job.Prove) h.1 (scripts th job.Prove)
      (λ q rq. searches th q.blocks (conduct_with limits)
      (λ f x. let e : Ending = found_ending th.signature proof f in none_is e.status e.text e.stored
      (command (Prove limits theory script proof) e.status e.text e.stored i
      (goals_done e.status e.text e.stored th q rt rq (record { found = f; search = x; is = refl })))))
      (λ s x. let text : List ℕ = refusal_text (Prove limits theory script proof) s in none_is s text None
      (command (Prove limits theory script proof) s text None i (scripted.no_script s th rt x))))
      (λ s x. let text : List ℕ = refusal_text (Prove limits theory script proof) s in none_is s text None
      (command (Prove limits theory script proof) s text None i (scripted.no_theory s x)))

  no_differ : (limits : Limits) (theory script : List ℕ) → Asks words (Differ limits theory script) → HoldsFilesOf held (Differ limits theory script) → ⊥
  no_differ limits theory script i h = file_decides held 1 theory TheoryRefusal ReadsAs h.0 reads
      (λ th rt. file_decides held 2 script (ScriptRefusal th job.Differ) (ReadsAsScript th job.Differ) h.1 (scripts th job.Differ)
      (λ q rq. let e : Ending = decision_ending th limits.steps limits.derives (refutations th 1 limits.derives limits.steps (goals_in q.blocks)) in
      none_is e.status e.text e.stored
      (command (Differ limits theory script) e.status e.text e.stored i (goals_done e.status e.text e.stored th q rt rq refl)))
      (λ s x. let text : List ℕ = refusal_text (Differ limits theory script) s in none_is s text None
      (command (Differ limits theory script) s text None i (scripted.no_script s th rt x))))
      (λ s x. let text : List ℕ = refusal_text (Differ limits theory script) s in none_is s text None
      (command (Differ limits theory script) s text None i (scripted.no_theory s x)))

  no_trace : (limits : Limits) (theory script : List ℕ) → Asks words (Trace limits theory script) → HoldsFilesOf held (Trace limits theory script) → ⊥
  no_trace limits theory script i h = file_decides held 1 theory TheoryRefusal ReadsAs h.0 reads
      (λ th rt. file_decides held 2 script (ScriptRefusal th job.Prove) (ReadsAsScript th job.Prove) h.1 (scripts th job.Prove)
      (λ q rq. some_trace th (conduct_with limits) q.blocks
      (λ e x. none_is e.status e.text e.stored
      (command (Trace limits theory script) e.status e.text e.stored i (goals_done e.status e.text e.stored th q rt rq x))))
      (λ s x. let text : List ℕ = refusal_text (Trace limits theory script) s in none_is s text None
      (command (Trace limits theory script) s text None i (scripted.no_script s th rt x))))
      (λ s x. let text : List ℕ = refusal_text (Trace limits theory script) s in none_is s text None
      (command (Trace limits theory script) s text None i (scripted.no_theory s x)))

  no_regex : (limits : Limits) (left right proof : List ℕ) → Asks words (Regex limits left right proof) → ⊥
  no_regex limits left right proof i = word_decides 1 left
      (λ e re. word_decides 2 right
      (λ f rf. searches LANG (equality_goals e f) (conduct_with limits)
      (λ d x. let end : Ending = found_ending LANG.signature proof d in none_is end.status end.text end.stored
      (command (Regex limits left right proof) end.status end.text end.stored i
      (both_read end.status end.text end.stored e f re rf (record { found = d; search = x; is = refl })))))
      (λ s x. let text : List ℕ = refusal_text (Regex limits left right proof) s in none_is s text None
      (command (Regex limits left right proof) s text None i (no_right s e re x))))
      (λ s x. let text : List ℕ = refusal_text (Regex limits left right proof) s in none_is s text None
      (command (Regex limits left right proof) s text None i (no_left s x)))

  no_upgrade : (theory proof new : List ℕ) → Asks words (Upgrade theory proof new) → HoldsFilesOf held (Upgrade theory proof new) → ⊥
  no_upgrade theory proof new i h = file_decides held 1 theory TheoryRefusal ReadsAs h.0 reads
      (λ th rt. file_decides held 2 proof (ProofRefusal th) (ReadsAsProof th) h.1
      (λ bytes no_proof_is no_refusal. proofs.reading th bytes no_proof_is (no_fault_left th bytes no_refusal))
      (λ p rp. let text : List ℕ = upgraded_text th.signature p in none_is status.Ok text (Some (upgraded_file new p))
      (command (Upgrade theory proof new) status.Ok text (Some (upgraded_file new p)) i (given_anew th p rt rp)))
      (λ s x. let text : List ℕ = refusal_text (Upgrade theory proof new) s in none_is s text None
      (command (Upgrade theory proof new) s text None i (upgrade.no_proof s th rt x))))
      (λ s x. let text : List ℕ = refusal_text (Upgrade theory proof new) s in none_is s text None
      (command (Upgrade theory proof new) s text None i (upgrade.no_theory s x)))

  no_expand : (theory proof : List ℕ) (goal : ℕ) (ks : List ℕ) → Asks words (Expand theory proof goal ks) → HoldsFilesOf held (Expand theory proof goal ks) → ⊥
  no_expand theory proof goal ks i h = file_decides held 1 theory TheoryRefusal ReadsAs h.0 reads
      (λ th rt. file_decides held 2 proof (PlainProofRefusal th) (ReadsAsPlainProof th) h.1
      (λ bytes no_proof_is no_refusal. proofs.reading th bytes
      (λ p r. plain_or_word p (λ plain. no_proof_is p (record { reads = r; plain = plain }))
      (λ word some. no_refusal 0 (cause.LeftOut word) (has_condition bytes p word r some)))
      (no_fault_left th bytes (λ place c f. no_refusal place c (plain.no_proof place c bytes f))))
      (λ p rp. proofs.verdict th p rp.are.reads.proof_for
      (λ n f. none_is (status.Refused n) (refused_text n) None
      (command (Expand theory proof goal ks) (status.Refused n) (refused_text n) None i (expand.refused n th p rt rp f, refl)))
      (λ a. text_or_none th (expanded th p goal ks)
      (λ text w. none_is status.Ok text None (command (Expand theory proof goal ks) status.Ok text None i (written_out text th p rt rp a w, refl)))
      (λ s x. let text : List ℕ = refusal_text (Expand theory proof goal ks) s in none_is s text None
      (command (Expand theory proof goal ks) s text None i (not_written s th p rt rp a x, refl)))))
      (λ s x. let text : List ℕ = refusal_text (Expand theory proof goal ks) s in none_is s text None
      (command (Expand theory proof goal ks) s text None i (expand.no_proof s th rt x, refl))))
      (λ s x. let text : List ℕ = refusal_text (Expand theory proof goal ks) s in none_is s text None
      (command (Expand theory proof goal ks) s text None i (expand.no_theory s x, refl)))

  no_contexts : (budget : ℕ) (theory : List ℕ) → Asks words (Contexts budget theory) → HoldsFilesOf held (Contexts budget theory) → ⊥
  no_contexts budget theory i h = file_decides held 1 theory TheoryRefusal ReadsAs h reads
      (λ th rt. some_set th budget (λ G tss g. let text : List ℕ = place_lines th.signature G in none_is status.Ok text None
      (command (Contexts budget theory) status.Ok text None i
      (listed th text rt (record { places = G; traces = tss; greatest = g; text_is = refl }), refl))))
      (λ s x. let text : List ℕ = refusal_text (Contexts budget theory) s in none_is s text None
      (command (Contexts budget theory) s text None i (not_listed s x, refl)))

  ended : (n : ℕ) → Asks words (Generate n) → (e : Ending) → Generates n e → ⊥
  ended n i e g = none_is e.status e.text e.stored (command (Generate n) e.status e.text e.stored i g)

  no_generate : (n : ℕ) → Asks words (Generate n) → ⊥
  no_generate n i = reads (chain_theory n)
      (λ th rt. scripts th job.Prove (chain_script n)
      (λ sc rs. searches th sc.blocks greatest_conduct
      (λ f x. ended n i (chain_ending th.signature n f) (generating.searched (chain_ending th.signature n f) th sc f rt rs x refl)))
      (λ place c f. ended n i (unread_ending 2 place c) (generating.no_script (unread_ending 2 place c) th place c rt f refl)))
      (λ place c f. ended n i (unread_ending 1 place c) (generating.no_theory (unread_ending 1 place c) place c f refl))

  no_command_left : (c : Command) → Asks words c → HoldsFilesOf held c → ⊥
  no_command_left (Check report theory proof) i h = no_check report theory proof i h
  no_command_left (Prove limits theory script proof) i h = no_prove limits theory script proof i h
  no_command_left (Show theory) i h = no_show theory i h
  no_command_left (Contexts budget theory) i h = no_contexts budget theory i h
  no_command_left (Generate n) i h = no_generate n i
  no_command_left (Reduce budget theory script) i h = no_reduce budget theory script i h
  no_command_left (Same first second) i h = no_same first second i h
  no_command_left (Differ limits theory script) i h = no_differ limits theory script i h
  no_command_left (Trace limits theory script) i h = no_trace limits theory script i h
  no_command_left (Regex limits left right proof) i h = no_regex limits left right proof i
  no_command_left (Upgrade theory proof new) i h = no_upgrade theory proof new i h
  no_command_left (Expand theory proof goal derivatives) i h = no_expand theory proof goal derivatives i h
  no_command_left (Library text) i h = none_is status.Ok text None (command (Library text) status.Ok text None i ((refl, refl), refl))

  pub nothing_left : HoldsFiles words held → ⊥
  nothing_left h = none_is status.Usage usage_text None (usage (λ c i. no_command_left c i (h c i)))
