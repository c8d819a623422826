-- What the answer that is due says of the outcome, and the other way.
use Rattle.std.proofs.Common.{◌≡◌, ℕ, List, refl, sym, ◌∙◌, subst, true, Option, None}
use Rattle.circ_outer.specs.Shelf.{ShelfState}
use Rattle.circ_top.specs.Answer.{Comes, RefusesCommand, DueAnswer, no_command, work_done, refusal, words_unread, AnswersDue}
use Rattle.circ_reports.specs.Check.{CheckOutcome}
use Rattle.circ_reports.specs.Reduce.{ReduceOutcome}
use Rattle.circ_reports.specs.Show.{ShowOutcome}
use Rattle.circ_top.specs.Causes.{PrintsOutcome, IsOutcomeOrFault, PrintsPartOf, AnswersOutcome}
use Rattle.circ_top.specs.Command.{Command, Check, Prove, Show, Contexts, Reduce, Same, Differ, Trace, Regex, Upgrade, Expand, Library, Generate, Asks}
use Rattle.circ_top.specs.Delivery.{Delivers, whole, write_failed, memory_wanted, text_wanted}
use Rattle.circ_files.specs.Like.{IsLike, itself}
use Rattle.circ_status.specs.Ending.{Stored}
use Rattle.circ_top.specs.Outcome.{OutcomeOf, Outcome, usage, command}
use Rattle.circ_top.specs.Run.{Run}
use Rattle.circ_top.specs.Storing.{HoldsAfter, IsUnstored, Ends, stored_first, not_stored}
use Rattle.circ_top.specs.Refusals.{usage_text, refusal_text}
use Rattle.circ_status.specs.declared.status.Status.{Status}
use Rattle.circ_status.specs.declared.status.Status.TheVariants as status
use Rattle.circ_files.proofs.Readings.{ReadsOnce}
use Rattle.circ_top.proofs.Agreeing.{DueIs, outcome, nothing_read, no_memory_left, Agrees, alike, AgreesWith, agreed, memory_with, stored_nothing, PrintsOnce, agree_answers, answers_part}
use Rattle.circ_status.specs.Ending.{ending}
use Rattle.circ_reports.specs.Contexts.{ContextsOutcome}
use Rattle.circ_top.proofs.ContextsOutcomes.{due_contexts, listed_outcome, contexts_agrees, listed_agrees}
use Rattle.circ_top.proofs.GenerateOutcomes.{generates_alike}
use Rattle.circ_top.specs.Prove.{ProofSought}
use Rattle.circ_top.proofs.ScriptOutcomes.{EndsOnce, to_prove_once, to_differ_once, due_script, done_outcome, refused_agrees, done_agrees}
use Rattle.circ_top.specs.Scripted.{to_prove, to_differ}
use Rattle.circ_top.proofs.Searches.{SearchesOnce, one_ending}
use Rattle.circ_search.specs.Plain.{conduct_with}
use Rattle.circ_turn.specs.declared.search.Limits.{Limits}
use Rattle.circ_top.proofs.CheckOutcomes.{due_check, accepted_outcome, check_agrees, accepted_agrees}
use Rattle.circ_top.proofs.ShowOutcomes.{due_show, shown_outcome, show_agrees, shown_agrees}
use Rattle.circ_top.proofs.ReduceOutcomes.{due_reduce, reduced_outcome, reduce_agrees, reduced_agrees}
use Rattle.circ_reports.specs.Same.{SameOutcome}
use Rattle.circ_top.proofs.SameOutcomes.{AutomataOnce, due_same, compared_outcome, same_agrees, compared_agrees}
use Rattle.circ_top.specs.Differ.{DifferenceSought}
use Rattle.circ_top.proofs.Differences.{one_difference, difference_done}
use Rattle.circ_top.specs.Trace.{TraceSought}
use Rattle.circ_top.proofs.Traced.{one_trace}
use Rattle.circ_top.proofs.RegexOutcomes.{ExpressionsOnce, due_regex, equality_outcome, regex_agrees, equality_agrees}
use Rattle.circ_reports.specs.Upgrade.{UpgradeOutcome}
use Rattle.circ_top.proofs.UpgradeOutcomes.{due_upgrade, upgraded_outcome, upgrade_agrees, upgraded_agrees}
use Rattle.circ_reports.specs.Expand.{ExpandOutcome}
use Rattle.circ_top.proofs.ExpandOutcomes.{due_expand, expanded_outcome, expand_agrees, expanded_agrees}
use Rattle.circ_top.proofs.Proofs.{ProofsOnce}
use Rattle.circ_files.proofs.Scripts.{ScriptsOnce}
use Rattle.circ_top.proofs.Requests.{same_command}

due_refusal : (words : List (List ℕ)) (before after : ShelfState) (c : Command) (s : Status) → before.tells ≡ true → Asks words c
    → RefusesCommand c before after s
    → DueIs words before after s (refusal_text c s) None
due_refusal words before after (Check report theory proof) s t i r = due_check words report theory proof before after s t i r
due_refusal words before after (Prove limits theory script proof) s t i r =
    due_script to_prove (Prove limits theory script proof) theory script (ProofSought limits proof) before after words s (λ u text x. x) t i r
due_refusal words before after (Show theory) s t i r = due_show words theory before after s t i r
due_refusal words before after (Contexts budget theory) s t i r = due_contexts words budget theory before after s t i r
due_refusal words before after (Reduce budget theory script) s t i r = due_reduce budget theory script before after words s t i r
due_refusal words before after (Same first second) s t i r = due_same first second before after words s t i r
due_refusal words before after (Differ limits theory script) s t i r =
    due_script to_differ (Differ limits theory script) theory script (DifferenceSought limits) before after words s (λ u text x. x) t i r
due_refusal words before after (Trace limits theory script) s t i r =
    due_script to_prove (Trace limits theory script) theory script (TraceSought limits) before after words s (λ u text x. x) t i r
due_refusal words before after (Regex limits left right proof) s t i r = due_regex limits left right proof words before after i s r
due_refusal words before after (Upgrade theory proof new) s t i r = due_upgrade theory proof new before after words s t i r
due_refusal words before after (Expand theory proof goal derivatives) s t i r = due_expand words theory proof goal derivatives before after s t i r
due_refusal words before after (Library text) s t i r =
    let P : Status → Type 0 = λ x. DueIs words before after x (refusal_text (Library text) x) None in subst P (sym r) no_memory_left
due_refusal words before after (Generate n) s t i r =
    let P : Status → Type 0 = λ x. DueIs words before after x (refusal_text (Generate n) x) None in subst P (sym r) no_memory_left

due_work : (c : Command) (s : Status) (text : List ℕ) (stored : Option Stored) (before : ShelfState) → before.tells ≡ true → Comes c s text stored before
    → OutcomeOf before.holds c s text stored
due_work (Check report theory proof) s text stored before t a =
    let P : Status → Type 0 = λ x. CheckOutcome before.holds report theory proof x text in
    (subst P (sym a.0) (accepted_outcome theory proof before before report text t a.1.0), a.1.1)
due_work (Prove limits theory script proof) s text stored before t a =
    done_outcome to_prove (Prove limits theory script proof) theory script (ProofSought limits proof) before before s text stored t a.done
due_work (Show theory) s text stored before t a =
    let P : Status → Type 0 = λ x. ShowOutcome before.holds theory x text in (subst P (sym a.0) (shown_outcome theory text before t a.1.0), a.1.1)
due_work (Contexts budget theory) s text stored before t a =
    let P : Status → Type 0 = λ x. ContextsOutcome before.holds budget theory x text in
    (subst P (sym a.0) (listed_outcome budget theory text before t a.1.0), a.1.1)
due_work (Reduce budget theory script) s text stored before t a =
    let P : Status → Type 0 = λ x. ReduceOutcome before.holds budget theory script x text in
    (subst P (sym a.0) (reduced_outcome budget theory script before before text t a.1.0), a.1.1)
due_work (Same first second) s text stored before t a = (compared_outcome first second before s text t a.0, a.1)
due_work (Differ limits theory script) s text stored before t a =
    done_outcome to_differ (Differ limits theory script) theory script (DifferenceSought limits) before before s text stored t
    (difference_done limits theory script (ending s text stored) before a)
due_work (Trace limits theory script) s text stored before t a =
    done_outcome to_prove (Trace limits theory script) theory script (TraceSought limits) before before s text stored t a.done
due_work (Regex limits left right proof) s text stored before t a = equality_outcome limits left right proof s text stored a
due_work (Upgrade theory proof new) s text stored before t a =
    let P : Status → Type 0 = λ x. UpgradeOutcome before.holds theory proof new x text stored in
    subst P (sym a.0) (upgraded_outcome theory proof new before before text stored t a.1)
due_work (Expand theory proof goal derivatives) s text stored before t a =
    let P : Status → Type 0 = λ x. ExpandOutcome before.holds theory proof goal derivatives x text in
    (subst P (sym a.0) (expanded_outcome theory proof goal derivatives before before text t a.1.0), a.1.1)
due_work (Library given) s text stored before t a = ((a.0, a.1.0), a.1.1)
due_work (Generate n) s text stored before t a = a

-- a search ends in one way
one_search : SearchesOnce → (limits : Limits) (name : List ℕ) → EndsOnce (ProofSought limits name)
one_search searches limits name th blocks d e = one_ending th (conduct_with limits) name blocks searches d e

pub due_is : (words : List (List ℕ)) (before after : ShelfState) (s : Status) (text : List ℕ) (stored : Option Stored) → before.tells ≡ true
    → DueAnswer words before after s text stored → DueIs words before after s text stored
due_is words before after _ _ _ t (no_command n) = outcome status.Usage usage_text None (usage n)
due_is words before after s text stored t (work_done c _ _ _ i a) =
    outcome s text stored (command c s text stored i (due_work c s text stored before t a))
due_is words before after s _ _ t (refusal c _ i r) = due_refusal words before after c s t i r
due_is words before after _ _ _ t words_unread = no_memory_left

module _ (once : ReadsOnce) (proofs : ProofsOnce) (scripts : ScriptsOnce) (automata : AutomataOnce) (expressions : ExpressionsOnce)
    (searches : SearchesOnce) (printed_once : PrintsOnce) (words : List (List ℕ)) (before after : ShelfState) (t : before.tells ≡ true) where
  refusal_agrees : (c : Command) (s r : Status) (text : List ℕ) (stored : Option Stored) → OutcomeOf before.holds c s text stored
      → RefusesCommand c before after r
      → AgreesWith before after s text stored r (refusal_text c r) None
  refusal_agrees (Check report theory proof) s r text stored c f =
      stored_nothing before after s text stored r (refusal_text (Check report theory proof) r) c.1
      (check_agrees once proofs report theory proof before after t r s text f c.0)
  refusal_agrees (Prove limits theory script proof) s r text stored c f =
      refused_agrees to_prove (to_prove_once once) scripts (Prove limits theory script proof) theory script (ProofSought limits proof)
      (one_search searches limits proof) before after t r s text stored f c
  refusal_agrees (Show theory) s r text stored c f =
      stored_nothing before after s text stored r (refusal_text (Show theory) r) c.1 (show_agrees once theory before after t r s text f c.0)
  refusal_agrees (Contexts budget theory) s r text stored c f =
      stored_nothing before after s text stored r (refusal_text (Contexts budget theory) r) c.1
      (contexts_agrees once budget theory before after t r s text f c.0)
  refusal_agrees (Reduce budget theory script) s r text stored c f =
      stored_nothing before after s text stored r (refusal_text (Reduce budget theory script) r) c.1
      (reduce_agrees once scripts budget theory script before after t r s text f c.0)
  refusal_agrees (Same first second) s r text stored c f =
      stored_nothing before after s text stored r (refusal_text (Same first second) r) c.1
      (same_agrees automata first second before after t r s text f c.0)
  refusal_agrees (Differ limits theory script) s r text stored c f =
      refused_agrees to_differ (to_differ_once once) scripts (Differ limits theory script) theory script (DifferenceSought limits) (one_difference limits)
      before after t r s text stored f c
  refusal_agrees (Trace limits theory script) s r text stored c f =
      refused_agrees to_prove (to_prove_once once) scripts (Trace limits theory script) theory script (TraceSought limits) (one_trace limits)
      before after t r s text stored f c
  refusal_agrees (Regex limits left right proof) s r text stored c f =
      regex_agrees limits left right proof expressions searches before after r s text stored f c
  refusal_agrees (Upgrade theory proof new) s r text stored c f = upgrade_agrees once proofs theory proof new before after t r s text stored f c
  refusal_agrees (Expand theory proof goal derivatives) s r text stored c f =
      stored_nothing before after s text stored r (refusal_text (Expand theory proof goal derivatives) r) c.1
      (expand_agrees once proofs theory proof goal derivatives before after t r s text f c.0)
  refusal_agrees (Library given) s r text stored c f =
      let P : Status → Type 0 = λ x. AgreesWith before after s text stored x (refusal_text (Library given) x) None in subst P (sym f) memory_with
  refusal_agrees (Generate n) s r text stored c f =
      let P : Status → Type 0 = λ x. AgreesWith before after s text stored x (refusal_text (Generate n) x) None in subst P (sym f) memory_with

  -- work that ends with 0, of a command that stores nothing
  ok_agrees : (s r : Status) (text given : List ℕ) (stored other : Option Stored) → r ≡ status.Ok → other ≡ None → stored ≡ None
      → Agrees before after s text status.Ok given → AgreesWith before after s text stored r given other
  ok_agrees s r text given stored other e o n a =
      let P : Status → Type 0 = λ x. AgreesWith before after s text stored x given other in
      let Q : Option Stored → Type 0 = λ x. AgreesWith before after s text stored status.Ok given x in
      subst P (sym e) (subst Q (sym o) (stored_nothing before after s text stored status.Ok given n a))

  work_agrees : (c : Command) (s r : Status) (text given : List ℕ) (stored other : Option Stored) → OutcomeOf before.holds c s text stored
      → Comes c r given other before → AgreesWith before after s text stored r given other
  work_agrees (Check report theory proof) s r text given stored other c a =
      ok_agrees s r text given stored other a.0 a.1.1 c.1 (accepted_agrees once proofs report theory proof before after t given a.1.0 s text c.0)
  work_agrees (Prove limits theory script proof) s r text given stored other c a =
      done_agrees to_prove (to_prove_once once) scripts (Prove limits theory script proof) theory script (ProofSought limits proof)
      (one_search searches limits proof) before after t r given other a.done s text stored c
  work_agrees (Show theory) s r text given stored other c a =
      ok_agrees s r text given stored other a.0 a.1.1 c.1 (shown_agrees once theory before after t printed_once given a.1.0 s text c.0)
  work_agrees (Contexts budget theory) s r text given stored other c a =
      ok_agrees s r text given stored other a.0 a.1.1 c.1 (listed_agrees once budget theory before after t given a.1.0 s text c.0)
  work_agrees (Reduce budget theory script) s r text given stored other c a =
      ok_agrees s r text given stored other a.0 a.1.1 c.1 (reduced_agrees once scripts budget theory script before after t given a.1.0 s text c.0)
  work_agrees (Same first second) s r text given stored other c a =
      let Q : Option Stored → Type 0 = λ x. AgreesWith before after s text stored r given x in
      subst Q (sym a.1) (stored_nothing before after s text stored r given c.1 (compared_agrees automata first second before after t r given a.0 s text c.0))
  work_agrees (Differ limits theory script) s r text given stored other c a =
      done_agrees to_differ (to_differ_once once) scripts (Differ limits theory script) theory script (DifferenceSought limits) (one_difference limits)
      before after t r given other (difference_done limits theory script (ending r given other) before a) s text stored c
  work_agrees (Trace limits theory script) s r text given stored other c a =
      done_agrees to_prove (to_prove_once once) scripts (Trace limits theory script) theory script (TraceSought limits) (one_trace limits)
      before after t r given other a.done s text stored c
  work_agrees (Regex limits left right proof) s r text given stored other c a =
      equality_agrees limits left right proof expressions searches before after r given other a s text stored c
  work_agrees (Upgrade theory proof new) s r text given stored other c a =
      let P : Status → Type 0 = λ x. AgreesWith before after s text stored x given other in
      subst P (sym a.0) (upgraded_agrees once proofs theory proof new before after t given other a.1 s text stored c)
  work_agrees (Expand theory proof goal derivatives) s r text given stored other c a =
      ok_agrees s r text given stored other a.0 a.1.1 c.1 (expanded_agrees once proofs theory proof goal derivatives before after t given a.1.0 s text c.0)
  work_agrees (Library words) s r text given stored other c a =
      let P : List ℕ → Type 0 = λ x. IsLike status.Ok text status.Ok x in
      let Q : Status → Type 0 = λ x. Agrees before after x text status.Ok given in
      ok_agrees s r text given stored other a.0 a.1.1 c.1
      (subst Q (sym c.0.0) (alike status.Ok given (subst P (c.0.1 ∙ sym a.1.0) (itself status.Ok text))))
  work_agrees (Generate n) s r text given stored other c a =
      let same = generates_alike once scripts searches n (ending s text stored) (ending r given other) c a in agreed r given other same.0 (sym same.1)

  due_agrees : (s r : Status) (text given : List ℕ) (stored other : Option Stored) → Outcome words before.holds s text stored
      → DueAnswer words before after r given other
      → AgreesWith before after s text stored r given other
  due_agrees _ _ _ _ _ _ (usage n) (no_command m) = agreed status.Usage usage_text None (itself status.Usage usage_text) refl
  due_agrees _ r _ given _ other (usage n) (work_done c _ _ _ i a) = absurd (n c i)
  due_agrees _ r _ _ _ _ (usage n) (refusal c _ i f) = absurd (n c i)
  due_agrees s _ text _ stored _ (command c _ _ _ i x) (no_command m) = absurd (m c i)
  due_agrees s r text given stored other (command c _ _ _ i x) (work_done d _ _ _ j a) =
      let P : Command → Type 0 = λ y. OutcomeOf before.holds y s text stored in
      work_agrees d s r text given stored other (subst P (same_command words c d i j) x) a
  due_agrees s r text _ stored _ (command c _ _ _ i x) (refusal d _ j f) =
      let P : Command → Type 0 = λ y. OutcomeOf before.holds y s text stored in
      refusal_agrees d s r text stored (subst P (same_command words c d i j) x) f
  due_agrees s _ text _ stored _ x words_unread = memory_with

-- what is answered where this is the outcome
module _ (once : ReadsOnce) (proofs : ProofsOnce) (scripts : ScriptsOnce) (automata : AutomataOnce) (expressions : ExpressionsOnce)
    (searches : SearchesOnce) (printed_once : PrintsOnce) (run : Run) (r : Status) (a : AnswersDue run r) (t : run.before.tells ≡ true) where
  pub answers_come : (s : Status) (text : List ℕ) (stored : Option Stored) → Outcome run.words run.before.holds s text stored
      → AnswersOutcome run s text stored r
  answers_come s text stored c =
      agree_answers run s text stored a.stored a.answer r a.text
      (due_agrees once proofs scripts automata expressions searches printed_once run.words run.before run.after t s a.answer text a.text stored a.stored c a.due)
      a.ends

  pub answers_memory : (s : Status) (text : List ℕ) (stored : Option Stored) → Outcome run.words run.before.holds s text stored
      → PrintsPartOf s text run.start run.end
  answers_memory s text stored c = answers_part run s text stored r (answers_come s text stored c)

-- the answer is an outcome
printed_outcome : (run : Run) (s : Status) → PrintsOutcome run s → IsOutcomeOrFault run s
printed_outcome run (status.ReadFault n) p = tt
printed_outcome run (status.WriteFault n) p = tt
printed_outcome run status.Memory p = tt
printed_outcome run s p = p

-- an answer that is not that of the work is a fault
unstored_fault : (run : Run) (name : List ℕ) (r : Status) → IsUnstored name run.before run.after r → IsOutcomeOrFault run r
unstored_fault run name (status.WriteFault n) u = tt
unstored_fault run name status.Memory u = tt
unstored_fault run name r u = absurd u

pub answers_outcome : (run : Run) (r : Status) → AnswersDue run r → run.before.tells ≡ true → IsOutcomeOrFault run r
answers_outcome run r a t = ended a.answer r a.text a.stored (due_is run.words run.before run.after a.answer a.text a.stored t a.due) a.ends
  where
    go : (d r : Status) (text : List ℕ) (stored : Option Stored) → DueIs run.words run.before run.after d text stored → HoldsAfter stored run.before run.after
        → Delivers text run.start run.end d r → IsOutcomeOrFault run r
    go d _ text stored (outcome _ _ _ c) h (whole p) =
        printed_outcome run d (record { text = text; stored = stored; outcome = c; held = h; prints = p })
    go _ _ _ _ (nothing_read n) h (whole p) = tt
    go _ _ _ _ no_memory_left h (whole p) = tt
    go d _ text stored x h (write_failed n some c rose p) = tt
    go d _ text stored x h (memory_wanted q p) = tt
    go d _ text stored x h (text_wanted p) = tt

    ended : (d r : Status) (text : List ℕ) (stored : Option Stored) → DueIs run.words run.before run.after d text stored → Ends run d text stored r
        → IsOutcomeOrFault run r
    ended d r text stored x (stored_first _ h y) = go d r text stored x h y
    ended d r text stored x (not_stored _ u p) = unstored_fault run u.file.name r u.why
