-- What one answer says: a success, a step that fails, a file that was not read or is past the limit, a text that was not written.
use Rattle.std.proofs.Common.{◌≡◌, ◌≢◌, ℕ, List, [], refl, ap, sym, ◌∙◌, subst, inl, inr, Option, Some, None}
use Rattle.std.proofs.lemmas.Option.{same_Some}
use Rattle.circ_outer.specs.Shelf.{ShelfState, IsQuiet}
use Rattle.circ_theory.specs.Theory.{Theory}
use Rattle.circ_theory.specs.Goal.{Goal}
use Rattle.circ_theory.specs.WellFormed.{IsWellFormed}
use Rattle.circ_proof.specs.Proof.{Proof}
use Rattle.circ_proof.specs.Accepted.{Derives, FirstFail}
use Rattle.circ_plain_search.specs.Numbering.{Proved}
use Rattle.circ_plain_search.specs.PlainSearch.{IsProofOf}
use Rattle.circ_attempt.specs.RewritingSearch.{RewritingSearch}
use Rattle.circ_conditional_search.specs.ConditionalSearch.{CanAllBeSearched}
use Rattle.circ_attempt.specs.Search.{Conduct}
use Rattle.circ_top.specs.Answer.{Succeeds, Comes, RefusesCommand, DueAnswer, no_command, work_done, refusal, words_unread, AnswersDue, Succeeded}
use Rattle.circ_top.specs.Causes.{AtFile, HasLongProof, IsPastLimit, IsReadFault, IsUnwritten, FailsToPut, IsWriteFault, IsQuietRun}
use Rattle.circ_reports.specs.Check.{report_text, refused, accepted}
use Rattle.circ_top.specs.Check.{Accepts, Rejects, FilesRead}
use Rattle.circ_top.specs.Command.{Command, Check, Prove, Show, Contexts, Reduce, Same, Differ, Trace, Regex, Upgrade, Expand, Library, Generate, Asks, IsNotStored, stored_name}
use Rattle.circ_search.specs.Plain.{conduct_with}
use Rattle.circ_top.specs.Scripted.{to_prove, to_differ}
use Rattle.circ_top.specs.Prove.{IsSearched, StoresProof}
use Rattle.circ_top.specs.Delivery.{Prints, Delivers, whole, write_failed, memory_wanted, text_wanted}
use Rattle.circ_files.specs.Files.{Held, IsUnread, IsTooLong, IsFileFault}
use Rattle.circ_status.specs.Ending.{Stored, ending}
use Rattle.circ_found.specs.Answering.{SearchEnds}
use Rattle.circ_top.specs.Outcome.{Outcome, command}
use Rattle.circ_top.specs.Run.{Run}
use Rattle.circ_top.specs.Storing.{HoldsAfter, IsUnstored, Ends, stored_first, not_stored}
use Rattle.circ_status.specs.Texts.{refused_text}
use Rattle.circ_top.specs.Refusals.{refusal_text}
use Rattle.circ_files.specs.TheoryFile.{TheoryRefusal}
use Rattle.circ_reports.specs.declared.report.Report.{Report}
use Rattle.circ_turn.specs.declared.search.Limits.{Limits}
use Rattle.circ_status.specs.declared.status.Status.{Status}
use Rattle.circ_status.specs.declared.status.Status.TheVariants as status
use Rattle.circ_top.proofs.CheckOutcomes.{check_not_ok, check_refused, unread_check, past_check, unwritten_check}
use Rattle.circ_files.proofs.FileFaults.{file_fault_not_ok, file_fault_not_refused}
use Rattle.circ_top.proofs.Outcomes.{due_is}
use Rattle.circ_top.proofs.ScriptOutcomes.{script_not_ok, script_not_refused, script_not_apart, unread_script, past_script, unwritten_script}
use Rattle.circ_generate.specs.Generating.{Generates}
use Rattle.circ_top.proofs.GenerateOutcomes.{generates_end}
use Rattle.circ_top.proofs.Searches.{IsSearchEnd, search_end, search_name, search_ok}
use Rattle.circ_top.proofs.ReduceOutcomes.{reduce_not_ok, reduce_not_refused, unread_reduce, past_reduce, unwritten_reduce}
use Rattle.circ_top.specs.Differ.{IsDifferenceSought, TellsApart}
use Rattle.circ_top.proofs.Differences.{difference_end, told_apart}
use Rattle.circ_top.specs.Trace.{IsTraced}
use Rattle.circ_top.proofs.Traced.{trace_end}
use Rattle.circ_regex.specs.Lang.{LANG}
use Rattle.circ_top.specs.Regex.{equality_goals, IsEqualitySearched, StoresEquality}
use Rattle.circ_top.proofs.RegexOutcomes.{regex_not_ok, regex_not_refused, regex_not_unread, regex_not_past, regex_not_unwritten}
use Rattle.circ_top.proofs.RegexOutcomes.{GoalsBehave, AlikeMatch, equality_matches}
use Rattle.circ_reports.specs.Upgrade.{upgraded_file}
use Rattle.circ_top.specs.Upgrade.{StoresUpgraded}
use Rattle.circ_top.proofs.Upgraded.{upgraded_fits, upgraded_alike}
use Rattle.circ_top.proofs.UpgradeOutcomes.{upgrade_not_ok, upgrade_not_refused, unread_upgrade, past_upgrade, unwritten_upgrade, upgraded_short}
use Rattle.circ_top.specs.Expand.{WritesDerivation}
use Rattle.circ_top.proofs.ExpandOutcomes.{expand_not_ok, expand_refused, unread_expand, past_expand, unwritten_expand}
use Rattle.circ_reports.specs.Same.{IsCompared}
use Rattle.circ_top.proofs.SameOutcomes.{same_not_ok, same_not_refused, unread_same, past_same, unwritten_same, compared_end}
use Rattle.circ_top.proofs.Agreeing.{DueIs, outcome, nothing_read, no_memory_left}
use Rattle.circ_top.proofs.Requests.{same_command}

module _ (before after : ShelfState) where
  command_not_ok : (c : Command) (s : Status) → RefusesCommand c before after s → s ≡ status.Ok → ⊥
  command_not_ok (Check report theory proof) s r e = check_not_ok theory proof before after s r e
  command_not_ok (Prove limits theory script proof) s r e = script_not_ok to_prove theory script before after s r e
  command_not_ok (Show theory) s r e = file_fault_not_ok 1 theory TheoryRefusal before after s e r
  command_not_ok (Contexts budget theory) s r e = file_fault_not_ok 1 theory TheoryRefusal before after s e r
  command_not_ok (Reduce budget theory script) s r e = reduce_not_ok budget theory script before after s r e
  command_not_ok (Same first second) s r e = same_not_ok first second before after s r e
  command_not_ok (Differ limits theory script) s r e = script_not_ok to_differ theory script before after s r e
  command_not_ok (Trace limits theory script) s r e = script_not_ok to_prove theory script before after s r e
  command_not_ok (Regex limits left right proof) s r e = regex_not_ok left right s r e
  command_not_ok (Upgrade theory proof new) s r e = upgrade_not_ok theory proof before after s r e
  command_not_ok (Expand theory proof goal derivatives) s r e = expand_not_ok theory proof goal derivatives before after s r e
  command_not_ok (Library text) s r e = let never : status.Memory ≡ status.Ok = sym r ∙ e in cc
  command_not_ok (Generate k) s r e = let never : status.Memory ≡ status.Ok = sym r ∙ e in cc

  command_not_refused : (theory : List ℕ) (s : Status) (n : ℕ) → IsFileFault 1 theory TheoryRefusal before after s → s ≡ status.Refused n → ⊥
  command_not_refused theory s n r e = file_fault_not_refused 1 theory TheoryRefusal before after s n e r

  unread_command : (c : Command) (s : Status) (n : ℕ) → RefusesCommand c before after s → s ≡ status.ReadFault n
      → (n ≡ after.count) × AtFile before c (λ f name. IsUnread name before after)
  unread_command (Check report theory proof) s n r e = unread_check theory proof before after s n r e
  unread_command (Prove limits theory script proof) s n r e = unread_script to_prove theory script before after s n r e
  unread_command (Show theory) s n r e = let P : Status → Type 0 = IsFileFault 1 theory TheoryRefusal before after in subst P e r
  unread_command (Contexts budget theory) s n r e = let P : Status → Type 0 = IsFileFault 1 theory TheoryRefusal before after in subst P e r
  unread_command (Reduce budget theory script) s n r e = unread_reduce budget theory script before after s n r e
  unread_command (Same first second) s n r e = unread_same first second before after s n r e
  unread_command (Differ limits theory script) s n r e = unread_script to_differ theory script before after s n r e
  unread_command (Trace limits theory script) s n r e = unread_script to_prove theory script before after s n r e
  unread_command (Regex limits left right proof) s n r e = absurd (regex_not_unread left right s n r e)
  unread_command (Upgrade theory proof new) s n r e = unread_upgrade theory proof before after s n r e
  unread_command (Expand theory proof goal derivatives) s n r e = unread_expand theory proof goal derivatives before after s n r e
  unread_command (Library text) s n r e = absurd (let never : status.Memory ≡ status.ReadFault n = sym r ∙ e in cc)
  unread_command (Generate k) s n r e = absurd (let never : status.Memory ≡ status.ReadFault n = sym r ∙ e in cc)

  past_command : (c : Command) (s : Status) (file n : ℕ) → RefusesCommand c before after s → s ≡ status.TooLong file n
      → AtFile before c (λ f name. (f ≡ file) × IsTooLong name n before)
  past_command (Check report theory proof) s file n r e = past_check theory proof before after s file n r e
  past_command (Prove limits theory script proof) s file n r e = past_script to_prove theory script before after s file n r e
  past_command (Show theory) s file n r e = let P : Status → Type 0 = IsFileFault 1 theory TheoryRefusal before after in let x = subst P e r in (sym x.0, x.1)
  past_command (Contexts budget theory) s file n r e =
      let P : Status → Type 0 = IsFileFault 1 theory TheoryRefusal before after in let x = subst P e r in (sym x.0, x.1)
  past_command (Reduce budget theory script) s file n r e = past_reduce budget theory script before after s file n r e
  past_command (Same first second) s file n r e = past_same first second before after s file n r e
  past_command (Differ limits theory script) s file n r e = past_script to_differ theory script before after s file n r e
  past_command (Trace limits theory script) s file n r e = past_script to_prove theory script before after s file n r e
  past_command (Regex limits left right proof) s file n r e = absurd (regex_not_past left right s file n r e)
  past_command (Upgrade theory proof new) s file n r e = past_upgrade theory proof before after s file n r e
  past_command (Expand theory proof goal derivatives) s file n r e = past_expand theory proof goal derivatives before after s file n r e
  past_command (Library text) s file n r e = absurd (let never : status.Memory ≡ status.TooLong file n = sym r ∙ e in cc)
  past_command (Generate k) s file n r e = absurd (let never : status.Memory ≡ status.TooLong file n = sym r ∙ e in cc)

  unwritten_command : (c : Command) (s : Status) (n : ℕ) → RefusesCommand c before after s → s ≡ status.WriteFault n → ⊥
  unwritten_command (Check report theory proof) s n r e = unwritten_check theory proof before after s n r e
  unwritten_command (Prove limits theory script proof) s n r e = unwritten_script to_prove theory script before after s n r e
  unwritten_command (Show theory) s n r e = let P : Status → Type 0 = IsFileFault 1 theory TheoryRefusal before after in subst P e r
  unwritten_command (Contexts budget theory) s n r e = let P : Status → Type 0 = IsFileFault 1 theory TheoryRefusal before after in subst P e r
  unwritten_command (Reduce budget theory script) s n r e = unwritten_reduce budget theory script before after s n r e
  unwritten_command (Same first second) s n r e = unwritten_same first second before after s n r e
  unwritten_command (Differ limits theory script) s n r e = unwritten_script to_differ theory script before after s n r e
  unwritten_command (Trace limits theory script) s n r e = unwritten_script to_prove theory script before after s n r e
  unwritten_command (Regex limits left right proof) s n r e = regex_not_unwritten left right s n r e
  unwritten_command (Upgrade theory proof new) s n r e = unwritten_upgrade theory proof before after s n r e
  unwritten_command (Expand theory proof goal derivatives) s n r e = unwritten_expand theory proof goal derivatives before after s n r e
  unwritten_command (Library text) s n r e = let never : status.Memory ≡ status.WriteFault n = sym r ∙ e in cc
  unwritten_command (Generate k) s n r e = let never : status.Memory ≡ status.WriteFault n = sym r ∙ e in cc

-- an answer with a success or a refusal at a step comes over a quiet shelf
quiet_ok : (before after : ShelfState) (words : List (List ℕ)) (r : Status) → r ≡ status.Ok → IsQuietRun words before after r → IsQuiet before after
quiet_ok before after words r e q = let P : Status → Type 0 = IsQuietRun words before after in subst P e q

quiet_refused : (before after : ShelfState) (words : List (List ℕ)) (r : Status) (n : ℕ) → r ≡ status.Refused n → IsQuietRun words before after r → IsQuiet before after
quiet_refused before after words r n e q = let P : Status → Type 0 = IsQuietRun words before after in subst P e q

-- how a command's work ends
module _ (before : ShelfState) where
  ok_end : (s : Status) → s ≡ status.Ok → IsSearchEnd s
  ok_end s e = subst IsSearchEnd (sym e) tt

  pub work_end : (c : Command) (s : Status) (text : List ℕ) (stored : Option Stored) → Comes c s text stored before → IsSearchEnd s
  work_end (Check report theory proof) s text stored a = ok_end s a.0
  work_end (Prove limits theory script proof) s text stored a =
      search_end a.done.th (conduct_with limits) proof a.done.sc.blocks s text stored a.done.ends
  work_end (Show theory) s text stored a = ok_end s a.0
  work_end (Contexts budget theory) s text stored a = ok_end s a.0
  work_end (Reduce budget theory script) s text stored a = ok_end s a.0
  work_end (Same first second) s text stored a = (compared_end a.0.compared.word s a.0.compared.status_is).0
  work_end (Differ limits theory script) s text stored a =
      (difference_end a.done.th limits.steps limits.derives a.done.sc.blocks (ending s text stored) a.done.ends).0
  work_end (Trace limits theory script) s text stored a = (trace_end a.done.th (conduct_with limits) a.done.sc.blocks (ending s text stored) a.done.ends).0
  work_end (Regex limits left right proof) s text stored a = search_end LANG (conduct_with limits) proof (equality_goals a.e a.f) s text stored a.ends
  work_end (Upgrade theory proof new) s text stored a = ok_end s a.0
  work_end (Expand theory proof goal derivatives) s text stored a = ok_end s a.0
  work_end (Library given) s text stored a = ok_end s a.0
  work_end (Generate k) s text stored a = (generates_end k (ending s text stored) a).0

  not_work_end : (c : Command) (s r : Status) (text : List ℕ) (stored : Option Stored) → Comes c s text stored before → s ≡ r → (IsSearchEnd r → ⊥) → ⊥
  not_work_end c s r text stored a e not = not (subst IsSearchEnd e (work_end c s text stored a))

  -- work that ends with 0 is a success
  work_succeeds : (c : Command) (s : Status) (text : List ℕ) (stored : Option Stored) → Comes c s text stored before → s ≡ status.Ok
      → Succeeds c text stored before
  work_succeeds (Check report theory proof) s text stored a e = a.1
  work_succeeds (Prove limits theory script proof) s text stored a e =
      let P : Status → Type 0 = λ x. IsSearched limits theory script proof (ending x text stored) before in subst P e a
  work_succeeds (Show theory) s text stored a e = a.1
  work_succeeds (Contexts budget theory) s text stored a e = a.1
  work_succeeds (Reduce budget theory script) s text stored a e = a.1
  work_succeeds (Same first second) s text stored a e = let P : Status → Type 0 = λ x. IsCompared first second x text before × (stored ≡ None) in subst P e a
  work_succeeds (Differ limits theory script) s text stored a e =
      let P : Status → Type 0 = λ x. IsDifferenceSought limits theory script (ending x text stored) before in subst P e a
  work_succeeds (Trace limits theory script) s text stored a e =
      let P : Status → Type 0 = λ x. IsTraced limits theory script (ending x text stored) before in subst P e a
  work_succeeds (Regex limits left right proof) s text stored a e =
      let P : Status → Type 0 = λ x. IsEqualitySearched limits left right proof (ending x text stored) in subst P e a
  work_succeeds (Upgrade theory proof new) s text stored a e = a.1
  work_succeeds (Expand theory proof goal derivatives) s text stored a e = a.1
  work_succeeds (Library given) s text stored a e = a.1
  work_succeeds (Generate k) s text stored a e = let P : Status → Type 0 = λ x. Generates k (ending x text stored) in subst P e a

  -- a text that is too long to be stored
  work_past : (c : Command) (s : Status) (text : List ℕ) (stored : Option Stored) (file n : ℕ) → Comes c s text stored before → s ≡ status.TooLong file n
      → HasLongProof before c file n
  work_past (Check report theory proof) s text stored file n a e = let never : status.Ok ≡ status.TooLong file n = sym a.0 ∙ e in cc
  work_past (Prove limits theory script proof) s text stored file n a e =
      let P : Status → Type 0 = λ x. IsSearched limits theory script proof (ending x text stored) before in (text, stored, subst P e a)
  work_past (Show theory) s text stored file n a e = let never : status.Ok ≡ status.TooLong file n = sym a.0 ∙ e in cc
  work_past (Contexts budget theory) s text stored file n a e = let never : status.Ok ≡ status.TooLong file n = sym a.0 ∙ e in cc
  work_past (Reduce budget theory script) s text stored file n a e = let never : status.Ok ≡ status.TooLong file n = sym a.0 ∙ e in cc
  work_past (Same first second) s text stored file n a e = absurd ((compared_end a.0.compared.word s a.0.compared.status_is).1 file n e)
  work_past (Differ limits theory script) s text stored file n a e =
      absurd ((difference_end a.done.th limits.steps limits.derives a.done.sc.blocks (ending s text stored) a.done.ends).2 file n e)
  work_past (Trace limits theory script) s text stored file n a e =
      let P : Status → Type 0 = λ x. IsTraced limits theory script (ending x text stored) before in (text, stored, subst P e a)
  work_past (Regex limits left right proof) s text stored file n a e =
      let P : Status → Type 0 = λ x. IsEqualitySearched limits left right proof (ending x text stored) in (text, stored, subst P e a)
  work_past (Upgrade theory proof new) s text stored file n a e = let never : status.Ok ≡ status.TooLong file n = sym a.0 ∙ e in cc
  work_past (Expand theory proof goal derivatives) s text stored file n a e = let never : status.Ok ≡ status.TooLong file n = sym a.0 ∙ e in cc
  work_past (Library given) s text stored file n a e = let never : status.Ok ≡ status.TooLong file n = sym a.0 ∙ e in cc
  work_past (Generate k) s text stored file n a e = let P : Status → Type 0 = λ x. Generates k (ending x text stored) in (text, stored, subst P e a)

  nothing_stored : {A : Type 0} → (stored : Option Stored) (x : Stored) → stored ≡ None → stored ≡ Some x → A
  nothing_stored stored x n e = absurd (let never : None ≡ Some x = sym n ∙ e in cc)

  -- what is stored goes under the command's name
  pub work_name : (c : Command) (s : Status) (text : List ℕ) (stored : Option Stored) (x : Stored) → Comes c s text stored before → stored ≡ Some x
      → stored_name c ≡ Some x.name
  work_name (Check report theory proof) s text stored x a e = nothing_stored stored x a.1.1 e
  work_name (Prove limits theory script proof) s text stored x a e =
      let P : Option Stored → Type 0 = λ y. SearchEnds a.done.th (conduct_with limits) proof a.done.sc.blocks (ending s text y) in
      ap Some (sym (search_name a.done.th (conduct_with limits) proof a.done.sc.blocks s text x (subst P e a.done.ends)))
  work_name (Show theory) s text stored x a e = nothing_stored stored x a.1.1 e
  work_name (Contexts budget theory) s text stored x a e = nothing_stored stored x a.1.1 e
  work_name (Reduce budget theory script) s text stored x a e = nothing_stored stored x a.1.1 e
  work_name (Same first second) s text stored x a e = nothing_stored stored x a.1 e
  work_name (Differ limits theory script) s text stored x a e =
      nothing_stored stored x (difference_end a.done.th limits.steps limits.derives a.done.sc.blocks (ending s text stored) a.done.ends).1 e
  work_name (Trace limits theory script) s text stored x a e =
      nothing_stored stored x (trace_end a.done.th (conduct_with limits) a.done.sc.blocks (ending s text stored) a.done.ends).1 e
  work_name (Regex limits left right proof) s text stored x a e =
      let P : Option Stored → Type 0 = λ y. SearchEnds LANG (conduct_with limits) proof (equality_goals a.e a.f) (ending s text y) in
      ap Some (sym (search_name LANG (conduct_with limits) proof (equality_goals a.e a.f) s text x (subst P e a.ends)))
  work_name (Upgrade theory proof new) s text stored x a e =
      ap (λ y. Some y.name) (same_Some (upgraded_file new a.1.p) x (sym a.1.stored_is ∙ e))
  work_name (Expand theory proof goal derivatives) s text stored x a e = nothing_stored stored x a.1.1 e
  work_name (Library given) s text stored x a e = nothing_stored stored x a.1.1 e
  work_name (Generate k) s text stored x a e = nothing_stored stored x (generates_end k (ending s text stored) a).1 e

-- what a search proves fits the theory, is accepted, and has exactly the given goals
abbrev pub ProofsFound : Type 0
ProofsFound = (th : Theory) → IsWellFormed th → (blocks : List (List Goal)) → CanAllBeSearched th blocks → (conduct : Conduct) (p : Proof)
    → RewritingSearch th blocks conduct (Proved p) → IsProofOf th blocks p

-- the command that stores, where something is stored
pub record StoredBy (words : List (List ℕ)) (x : Stored) : Type 0 where
  pub command : Command
  pub asks : Asks words command
  pub named : stored_name command ≡ Some x.name

pub stored_by : (words : List (List ℕ)) (before after : ShelfState) (d : Status) (text : List ℕ) (stored : Option Stored) (x : Stored)
    → DueAnswer words before after d text stored → stored ≡ Some x → StoredBy words x
stored_by words before after _ _ _ x (no_command n) e = absurd (let never : None ≡ Some x = e in cc)
stored_by words before after d text stored x (work_done c _ _ _ i a) e = record { command = c; asks = i; named = work_name before c d text stored x a e }
stored_by words before after _ _ _ x (refusal c s i f) e = absurd (let never : None ≡ Some x = e in cc)
stored_by words before after _ _ _ x words_unread e = absurd (let never : None ≡ Some x = e in cc)

module _ (run : Run) (r : Status) (a : AnswersDue run r) where
  pub answers_succeed : IsQuietRun run.words run.before run.after r → r ≡ status.Ok → Succeeded run
  answers_succeed q e = ended r a.ends e (quiet_ok run.before run.after run.words r e q)
    where
      go : (d : Status) (text : List ℕ) (stored : Option Stored) → DueAnswer run.words run.before run.after d text stored → HoldsAfter stored run.before run.after
          → (r : Status) → Delivers text run.start run.end d r → r ≡ status.Ok → IsQuiet run.before run.after → Succeeded run
      go _ _ _ (no_command n) h _ (whole p) e q = absurd (cc)
      go d text stored (work_done c _ _ _ i s) h _ (whole p) e q = record {
        command = c;
        text = text;
        stored = stored;
        asks = i;
        succeeds = work_succeeds run.before c d text stored s e;
        held = h;
        quiet = q;
        prints = p;
      }
      go _ _ _ (refusal c s i f) h _ (whole p) e q = absurd (command_not_ok run.before run.after c s f e)
      go _ _ _ words_unread h _ (whole p) e q = absurd (cc)
      go d text stored x h _ (write_failed n some i rose p) e q = absurd (cc)
      go d text stored x h _ (memory_wanted m p) e q = absurd (cc)
      go d text stored x h _ (text_wanted p) e q = absurd (cc)

      ended : (r : Status) → Ends run a.answer a.text a.stored r → r ≡ status.Ok → IsQuiet run.before run.after
          → Succeeded run
      ended r (stored_first _ h x) e q = go a.answer a.text a.stored a.due h r x e q
      ended r (not_stored _ u p) e q = absurd (let P : Status → Type 0 = IsUnstored u.file.name run.before run.after in subst P e u.why)

  pub answers_accepted : IsQuietRun run.words run.before run.after r → (report : Report) (theory proof : List ℕ) → Asks run.words (Check report theory proof) → r ≡ status.Ok
      → Accepts report theory proof run
  answers_accepted q report theory proof i e =
      let s = answers_succeed q e in
      let P : Command → Type 0 = λ c. Succeeds c s.text s.stored run.before in
      let accepted = (subst P (same_command run.words s.command (Check report theory proof) s.asks i) s.succeeds).0 in
      record { text = s.text; accepted = accepted; quiet = s.quiet; prints = s.prints }

  pub answers_proved : ProofsFound → IsQuietRun run.words run.before run.after r → (limits : Limits) (theory script proof : List ℕ)
      → Asks run.words (Prove limits theory script proof) → r ≡ status.Ok → StoresProof theory script proof run
  answers_proved found q limits theory script proof i e =
      let s = answers_succeed q e in
      let P : Command → Type 0 = λ c. Succeeds c s.text s.stored run.before in
      let a = subst P (same_command run.words s.command (Prove limits theory script proof) s.asks i) s.succeeds in
      let d = a.done in
      let ok = search_ok d.th (conduct_with limits) proof d.sc.blocks s.text s.stored d.ends in
      let says = found d.th d.takes_theory.well_formed d.sc.blocks a.searchable (conduct_with limits) ok.p ok.search in
      let H : Option Stored → Type 0 = λ x. HoldsAfter x run.before run.after in
      let T : List ℕ → Type 0 = λ x. Prints x run.start run.end in
      let held = subst H ok.stored_is s.held in
      record {
        th = d.th;
        sc = d.sc;
        p = ok.p;
        takes_theory = record { bytes = d.takes_theory.bytes; well_formed = d.takes_theory.well_formed; reads = d.takes_theory.reads };
        takes_script = d.takes_script;
        proof_for = says.fits;
        accepted = says.accepted;
        goals = says.goals;
        short = ok.short;
        holds = held.0;
        others = held.1;
        quiet = s.quiet;
        prints = subst T ok.text_is s.prints;
      }

  pub answers_equal : ProofsFound → GoalsBehave → AlikeMatch → IsQuietRun run.words run.before run.after r → (limits : Limits) (left right proof : List ℕ)
      → Asks run.words (Regex limits left right proof) → r ≡ status.Ok → StoresEquality left right proof run
  answers_equal found behave alike q limits left right proof i e =
      let s = answers_succeed q e in
      let P : Command → Type 0 = λ c. Succeeds c s.text s.stored run.before in
      let a = subst P (same_command run.words s.command (Regex limits left right proof) s.asks i) s.succeeds in
      let ok = search_ok LANG (conduct_with limits) proof (equality_goals a.e a.f) s.text s.stored a.ends in
      let says = found LANG a.well_formed (equality_goals a.e a.f) a.searchable (conduct_with limits) ok.p ok.search in
      let H : Option Stored → Type 0 = λ x. HoldsAfter x run.before run.after in
      let T : List ℕ → Type 0 = λ x. Prints x run.start run.end in
      let held = subst H ok.stored_is s.held in
      record {
        e = a.e;
        f = a.f;
        p = ok.p;
        left_is = a.left_is;
        right_is = a.right_is;
        same_words = equality_matches behave alike a.well_formed a.e a.f ok.p says.fits says.accepted says.goals;
        proof_for = says.fits;
        accepted = says.accepted;
        goals = says.goals;
        short = ok.short;
        holds = held.0;
        others = held.1;
        quiet = s.quiet;
        prints = subst T ok.text_is s.prints;
      }

  pub answers_told_apart : IsQuietRun run.words run.before run.after r → (limits : Limits) (theory script : List ℕ) (n : ℕ) → Asks run.words (Differ limits theory script)
      → r ≡ status.Differ n → TellsApart theory script n run
  answers_told_apart q limits theory script n i e = ended r a.ends e (let P : Status → Type 0 = IsQuietRun run.words run.before run.after in subst P e q)
    where
      done : (c : Command) (d : Status) (text : List ℕ) (stored : Option Stored) → Asks run.words c → Comes c d text stored run.before → d ≡ status.Differ n
          → Prints text run.start run.end → IsQuiet run.before run.after → TellsApart theory script n run
      done c d text stored j x e p q =
          let P : Command → Type 0 = λ y. Comes y d text stored run.before in
          let Q : Status → Type 0 = λ y. IsDifferenceSought limits theory script (ending y text stored) run.before in
          let w = (subst Q e (subst P (same_command run.words c (Differ limits theory script) j i) x)).done in
          let y = told_apart w.th limits.steps limits.derives w.sc.blocks n text stored w.ends in
          let T : List ℕ → Type 0 = λ z. Prints z run.start run.end in
          record {
            th = w.th;
            sc = w.sc;
            takes_theory = record { bytes = w.takes_theory.bytes; well_formed = w.takes_theory.well_formed; reads = w.takes_theory.reads };
            takes_script = w.takes_script;
            goal = w.ends.decision.goal;
            counted = y.counted;
            told_apart = y.told_apart;
            goal_is = y.goal_is;
            entries = y.entries;
            left = y.left;
            right = y.right;
            differs = y.differs;
            count = y.count_is;
            quiet = q;
            prints = subst T y.text_is p;
          }

      go : (d : Status) (text : List ℕ) (stored : Option Stored) → DueAnswer run.words run.before run.after d text stored → (r : Status)
          → Delivers text run.start run.end d r → r ≡ status.Differ n → IsQuiet run.before run.after → TellsApart theory script n run
      go _ _ _ (no_command m) _ (whole p) e q = absurd (cc)
      go d text stored (work_done c _ _ _ j x) _ (whole p) e q = done c d text stored j x e p q
      go _ _ _ (refusal c s j f) _ (whole p) e q =
          let P : Command → Type 0 = λ y. RefusesCommand y run.before run.after s in
          absurd (script_not_apart to_differ theory script run.before run.after s n (subst P (same_command run.words c (Differ limits theory script) j i) f) e)
      go _ _ _ words_unread _ (whole p) e q = absurd (cc)
      go d text stored x _ (write_failed m some k rose p) e q = absurd (cc)
      go d text stored x _ (memory_wanted m p) e q = absurd (cc)
      go d text stored x _ (text_wanted p) e q = absurd (cc)

      ended : (r : Status) → Ends run a.answer a.text a.stored r → r ≡ status.Differ n → IsQuiet run.before run.after
          → TellsApart theory script n run
      ended r (stored_first _ h x) e q = go a.answer a.text a.stored a.due r x e q
      ended r (not_stored _ u p) e q = absurd (let P : Status → Type 0 = IsUnstored u.file.name run.before run.after in subst P e u.why)

  pub answers_upgraded : IsQuietRun run.words run.before run.after r → (theory proof new : List ℕ) → Asks run.words (Upgrade theory proof new) → r ≡ status.Ok
      → StoresUpgraded theory proof new run
  answers_upgraded q theory proof new i e =
      let s = answers_succeed q e in
      let P : Command → Type 0 = λ c. Succeeds c s.text s.stored run.before in
      let a = subst P (same_command run.words s.command (Upgrade theory proof new) s.asks i) s.succeeds in
      let H : Option Stored → Type 0 = λ x. HoldsAfter x run.before run.after in
      let T : List ℕ → Type 0 = λ x. Prints x run.start run.end in
      let held = subst H a.stored_is s.held in
      record {
        th = a.th;
        p = a.p;
        takes_theory = a.takes_theory;
        takes_proof = a.takes_proof;
        proof_for = upgraded_fits a.th a.p a.takes_proof.bytes.are.proof_for;
        alike = upgraded_alike a.th a.p;
        short = upgraded_short a.th a.p a.takes_proof.bytes;
        holds = held.0;
        others = held.1;
        quiet = s.quiet;
        prints = subst T a.text_is s.prints;
      }

  pub answers_written : IsQuietRun run.words run.before run.after r → (theory proof : List ℕ) (goal : ℕ) (derivatives : List ℕ)
      → Asks run.words (Expand theory proof goal derivatives) → r ≡ status.Ok → WritesDerivation theory proof goal derivatives run
  answers_written q theory proof goal derivatives i e =
      let s = answers_succeed q e in
      let P : Command → Type 0 = λ c. Succeeds c s.text s.stored run.before in
      let a = (subst P (same_command run.words s.command (Expand theory proof goal derivatives) s.asks i) s.succeeds).0 in
      record {
        th = a.th;
        p = a.p;
        takes_theory = a.takes_theory;
        takes_proof = a.takes_proof;
        accepted = a.expands.accepted;
        text = s.text;
        shows = a.expands.shows;
        quiet = s.quiet;
        prints = s.prints;
      }

  pub answers_refused : IsQuietRun run.words run.before run.after r → (n : ℕ) → r ≡ status.Refused n → Rejects run n
  answers_refused q n e = ended r a.ends e (quiet_refused run.before run.after run.words r n e q)
    where
      rejects : (c : Command) (s : Status) → Asks run.words c → RefusesCommand c run.before run.after s → s ≡ status.Refused n → Prints (refusal_text c s) run.start run.end
          → IsQuiet run.before run.after
          → Rejects run n
      rejects (Check report theory proof) s i f e p q =
          let P : Status → Type 0 = λ x. Prints (refusal_text (Check report theory proof) x) run.start run.end in
          record { theory = theory; proof = proof; asks = inl (report, i); refused = check_refused theory proof run.before run.after s n f e; quiet = q; prints = subst P e p }
      rejects (Prove limits theory script proof) s i f e p q = absurd (script_not_refused to_prove theory script run.before run.after s n f e)
      rejects (Show theory) s i f e p q = absurd (command_not_refused run.before run.after theory s n f e)
      rejects (Contexts budget theory) s i f e p q = absurd (file_fault_not_refused 1 theory TheoryRefusal run.before run.after s n e f)
      rejects (Reduce budget theory script) s i f e p q = absurd (reduce_not_refused budget theory script run.before run.after s n f e)
      rejects (Same first second) s i f e p q = absurd (same_not_refused first second run.before run.after s n f e)
      rejects (Differ limits theory script) s i f e p q = absurd (script_not_refused to_differ theory script run.before run.after s n f e)
      rejects (Trace limits theory script) s i f e p q = absurd (script_not_refused to_prove theory script run.before run.after s n f e)
      rejects (Regex limits left right proof) s i f e p q = absurd (regex_not_refused left right s n f e)
      rejects (Upgrade theory proof new) s i f e p q = absurd (upgrade_not_refused theory proof run.before run.after s n f e)
      rejects (Expand theory proof goal derivatives) s i f e p q =
          let P : Status → Type 0 = λ x. Prints (refusal_text (Expand theory proof goal derivatives) x) run.start run.end in
          record {
            theory = theory;
            proof = proof;
            asks = inr (goal, derivatives, i);
            refused = expand_refused theory proof goal derivatives run.before run.after s n f e;
            quiet = q;
            prints = subst P e p;
          }
      rejects (Library text) s i f e p q = absurd (let never : status.Memory ≡ status.Refused n = sym f ∙ e in cc)
      rejects (Generate k) s i f e p q = absurd (let never : status.Memory ≡ status.Refused n = sym f ∙ e in cc)

      go : (d : Status) (text : List ℕ) (stored : Option Stored) → DueAnswer run.words run.before run.after d text stored
          → (r : Status) → Delivers text run.start run.end d r → r ≡ status.Refused n → IsQuiet run.before run.after → Rejects run n
      go _ _ _ (no_command m) _ (whole p) e q = absurd (cc)
      go d text stored (work_done c _ _ _ i s) _ (whole p) e q = absurd (not_work_end run.before c d (status.Refused n) text stored s e (λ x. x))
      go _ _ _ (refusal c s i f) _ (whole p) e q = rejects c s i f e p q
      go _ _ _ words_unread _ (whole p) e q = absurd (cc)
      go d text stored x _ (write_failed m some i rose p) e q = absurd (cc)
      go d text stored x _ (memory_wanted m p) e q = absurd (cc)
      go d text stored x _ (text_wanted p) e q = absurd (cc)

      ended : (r : Status) → Ends run a.answer a.text a.stored r → r ≡ status.Refused n → IsQuiet run.before run.after
          → Rejects run n
      ended r (stored_first _ h x) e q = go a.answer a.text a.stored a.due r x e q
      ended r (not_stored _ u p) e q = absurd (let P : Status → Type 0 = IsUnstored u.file.name run.before run.after in subst P e u.why)

  pub answers_read_fault : (n : ℕ) → r ≡ status.ReadFault n → IsReadFault run n
  answers_read_fault n = ended r a.ends
    where
      go : (d : Status) (text : List ℕ) (stored : Option Stored) → DueAnswer run.words run.before run.after d text stored
          → (r : Status) → Delivers text run.start run.end d r → r ≡ status.ReadFault n → IsReadFault run n
      go _ _ _ (no_command m) _ (whole p) e = absurd (cc)
      go d text stored (work_done c _ _ _ i s) _ (whole p) e = absurd (not_work_end run.before c d (status.ReadFault n) text stored s e (λ x. x))
      go _ _ _ (refusal c s i f) _ (whole p) e =
          let u = unread_command run.before run.after c s n f e in
          let P : Status → Type 0 = λ x. Prints (refusal_text c x) run.start run.end in
          record { command = c; asks = i; unread = u.1; counted = u.0; nothing = subst P e p }
      go _ _ _ words_unread _ (whole p) e = absurd (cc)
      go d text stored x _ (write_failed m some i rose p) e = absurd (cc)
      go d text stored x _ (memory_wanted m p) e = absurd (cc)
      go d text stored x _ (text_wanted p) e = absurd (cc)

      ended : (r : Status) → Ends run a.answer a.text a.stored r → r ≡ status.ReadFault n → IsReadFault run n
      ended r (stored_first _ h x) e = go a.answer a.text a.stored a.due r x e
      ended r (not_stored _ u p) e = absurd (let P : Status → Type 0 = IsUnstored u.file.name run.before run.after in subst P e u.why)

  pub answers_past_limit : (file n : ℕ) → r ≡ status.TooLong file n → IsPastLimit run.words run.before file n
  answers_past_limit file n = ended r a.ends
    where
      go : (d : Status) (text : List ℕ) (stored : Option Stored) → DueAnswer run.words run.before run.after d text stored
          → (r : Status) → Delivers text run.start run.end d r → r ≡ status.TooLong file n → IsPastLimit run.words run.before file n
      go _ _ _ (no_command m) _ (whole p) e = absurd (cc)
      go d text stored (work_done c _ _ _ i s) _ (whole p) e =
          record { command = c; asks = i; past = inr (work_past run.before c d text stored file n s e) }
      go _ _ _ (refusal c s i f) _ (whole p) e = record { command = c; asks = i; past = inl (past_command run.before run.after c s file n f e) }
      go _ _ _ words_unread _ (whole p) e = absurd (cc)
      go d text stored x _ (write_failed m some i rose p) e = absurd (cc)
      go d text stored x _ (memory_wanted m p) e = absurd (cc)
      go d text stored x _ (text_wanted p) e = absurd (cc)

      ended : (r : Status) → Ends run a.answer a.text a.stored r → r ≡ status.TooLong file n → IsPastLimit run.words run.before file n
      ended r (stored_first _ h x) e = go a.answer a.text a.stored a.due r x e
      ended r (not_stored _ u p) e = absurd (let P : Status → Type 0 = IsUnstored u.file.name run.before run.after in subst P e u.why)

  pub answers_write_fault : (n : ℕ) → r ≡ status.WriteFault n → IsWriteFault run n
  answers_write_fault n = ended r a.ends
    where
      with_text : (d : Status) (text : List ℕ) (stored : Option Stored) → text ≢ [] → DueIs run.words run.before run.after d text stored
          → Outcome run.words run.before.holds d text stored
      with_text d text stored some (outcome _ _ _ c) = c
      with_text _ _ _ some (nothing_read m) = absurd (some refl)
      with_text _ _ _ some no_memory_left = absurd (some refl)

      go : (d : Status) (text : List ℕ) (stored : Option Stored) → DueAnswer run.words run.before run.after d text stored → HoldsAfter stored run.before run.after
          → (r : Status) → Delivers text run.start run.end d r → r ≡ status.WriteFault n → IsUnwritten run n
      go _ _ _ (no_command m) h _ (whole p) e = absurd (cc)
      go d text stored (work_done c _ _ _ i s) h _ (whole p) e = absurd (not_work_end run.before c d (status.WriteFault n) text stored s e (λ x. x))
      go _ _ _ (refusal c s i f) h _ (whole p) e = absurd (unwritten_command run.before run.after c s n f e)
      go _ _ _ words_unread h _ (whole p) e = absurd (cc)
      go d text stored x h _ (write_failed m some c rose p) e =
          let same : m ≡ n = cc in
          record {
            outcome = d;
            text = text;
            stored = stored;
            due = λ t. with_text d text stored some (due_is run.words run.before run.after d text stored t x);
            held = h;
            rose = rose;
            counted = sym same ∙ c;
            part = p;
          }
      go d text stored x h _ (memory_wanted m p) e = absurd (cc)
      go d text stored x h _ (text_wanted p) e = absurd (cc)

      ended : (r : Status) → Ends run a.answer a.text a.stored r → r ≡ status.WriteFault n → IsWriteFault run n
      ended r (stored_first _ h x) e = inl (go a.answer a.text a.stored a.due h r x e)
      ended r (not_stored _ u p) e =
          let P : Status → Type 0 = IsUnstored u.file.name run.before run.after in
          let w = subst P e u.why in
          let by = stored_by run.words run.before run.after a.answer a.text a.stored u.file a.due u.is in
          let put : FailsToPut run.words run.before run.after = record { command = by.command; asks = by.asks; name = u.file.name; named = by.named; struck = w.1 } in
          inr (record { put = put; others = u.others; counted = w.0; nothing = p })

  -- no name changes but the one under which the command stores
  pub answers_hold : (n : List ℕ) → IsNotStored run.words n → run.after.holds n ≡ run.before.holds n
  answers_hold n not = ended a.ends
    where
      other : (x : Stored) → a.stored ≡ Some x → n ≢ x.name
      other x e same =
          let by = stored_by run.words run.before run.after a.answer a.text a.stored x a.due e in not by.command by.asks (by.named ∙ ap Some (sym same))

      go : (stored : Option Stored) → a.stored ≡ stored → HoldsAfter stored run.before run.after → run.after.holds n ≡ run.before.holds n
      go None e h = h n
      go (Some x) e h = h.1 n (other x e)

      ended : Ends run a.answer a.text a.stored r → run.after.holds n ≡ run.before.holds n
      ended (stored_first _ h x) = go a.stored refl h
      ended (not_stored _ u p) = u.others.others n (other u.file u.is)

-- the two special cases where both files read

pub read_outcome : (words : List (List ℕ)) (held : Held) (report : Report) (th : Theory) (p : Proof) (n : ℕ) → FilesRead words held report th p
    → FirstFail th p n → Outcome words held (status.Refused n) (refused_text n) None
read_outcome words held report th p n f fail =
    command (Check report f.theory f.proof) (status.Refused n) (refused_text n) None f.asks (refused n th p f.reads_theory f.reads_proof fail, refl)

pub accepted_read_outcome : (words : List (List ℕ)) (held : Held) (report : Report) (th : Theory) (p : Proof) (derived : List (List Goal))
    → FilesRead words held report th p → Derives th p derived → Outcome words held status.Ok (report_text report th.signature p derived) None
accepted_read_outcome words held report th p derived f d =
    command (Check report f.theory f.proof) status.Ok (report_text report th.signature p derived) None f.asks
    (accepted th p derived f.reads_theory f.reads_proof d, refl)
