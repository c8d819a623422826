-- What `generate` comes to, in one way.
use Rattle.std.proofs.Common.{◌≡◌, ℕ, Bool, length, refl, sym, ◌∙◌, ap, subst, true, false, None, nat_lt, if◌then◌else◌}
use Rattle.circ_theory.specs.Signature.{Signature}
use Rattle.circ_theory.specs.Theory.{Theory}
use Rattle.circ_proof.specs.Proof.{Proof}
use Rattle.circ_proof_text.specs.ProofText.{proof_text}
use Rattle.circ_read.specs.declared.cause.Cause.{Cause}
use Rattle.circ_read.specs.ReadsAs.{ReadsAs}
use Rattle.circ_script.specs.ReadsAsScript.{ReadsAsScript}
use Rattle.circ_script.specs.Refusing.{FirstScriptCause}
use Rattle.circ_script.specs.Script.{Script}
use Rattle.circ_script.specs.declared.job.Job.TheVariants as job
use Rattle.circ_plain_search.specs.Numbering.{Found, Proved, LongTable, Stuck, Spent, TooBig, TooDeep}
use Rattle.circ_attempt.specs.RewritingSearch.{RewritingSearch}
use Rattle.circ_files.specs.Like.{IsLikeCause, IsLike, itself}
use Rattle.circ_status.specs.Texts.{too_long_text}
use Rattle.circ_status.specs.declared.status.Status.TheVariants as status
use Rattle.circ_files.proofs.Readings.{ReadsOnce}
use Rattle.circ_files.proofs.Scripts.{ScriptsOnce}
use Rattle.circ_status.specs.Ending.{Ending, ending}
use Rattle.circ_generate.specs.Chain.{chain_theory, chain_script}
use Rattle.circ_generate.specs.Generating.{greatest_conduct, summary_text, chain_ending, unread_ending, Generates, no_theory, no_script, searched}
use Rattle.circ_top.specs.Command.{Generate}
use Rattle.circ_top.proofs.Refused.{unreadable_like}
use Rattle.circ_top.proofs.Searches.{IsSearchEnd, SearchesOnce}

-- a chain ends as a search does, or is not read, and stores nothing
abbrev IsChainEnd : Ending → Type 0
IsChainEnd e = IsSearchEnd e.status × (e.stored ≡ None)

module _ (sig : Signature) (n : ℕ) where
  summary_end : (p : Proof) (b : Bool)
      → IsChainEnd (if b then ending (status.TooLong 3 (length (proof_text p))) (too_long_text 3) None else ending status.Ok (summary_text n p) None)
  summary_end p true = (tt, refl)
  summary_end p false = (tt, refl)

  chain_end : (f : Found) → IsChainEnd (chain_ending sig n f)
  chain_end (Proved p) = summary_end p (nat_lt 67108864 (length (proof_text p)))
  chain_end (LongTable k) = (tt, refl)
  chain_end (Stuck b g s t A) = (tt, refl)
  chain_end (Spent r d s) = (tt, refl)
  chain_end (TooBig k) = (tt, refl)
  chain_end (TooDeep k) = (tt, refl)

unread_end : (file place : ℕ) (c : Cause) → IsChainEnd (unread_ending file place c)
unread_end file place c = (tt, refl)

pub generates_end : (n : ℕ) (e : Ending) → Generates n e → IsChainEnd e
generates_end n e (no_theory _ place c f is) = subst IsChainEnd (sym is) (unread_end 1 place c)
generates_end n e (no_script _ th place c r f is) = subst IsChainEnd (sym is) (unread_end 2 place c)
generates_end n e (searched _ th sc f r q s is) = subst IsChainEnd (sym is) (chain_end th.signature n f)

-- like endings, which store the same
abbrev AreLike : (d e : Ending) → Type 0
AreLike d e = IsLike d.status d.text e.status e.text × (d.stored ≡ e.stored)

same_like : (d e : Ending) → d ≡ e → AreLike d e
same_like d e same = let P : Ending → Type 0 = AreLike d in subst P same (itself d.status d.text, refl)

by_equations : (d e x y : Ending) → d ≡ x → e ≡ y → AreLike x y → AreLike d e
by_equations d e x y a b l = let P : Ending → Type 0 = λ z. AreLike z e in let Q : Ending → Type 0 = AreLike x in subst P (sym a) (subst Q (sym b) l)

unread_like : (n file p q : ℕ) (c d : Cause) → p ≡ q → IsLikeCause c d → AreLike (unread_ending file p c) (unread_ending file q d)
unread_like n file p q c d e l = (unreadable_like (Generate n) file file p q c d refl e l, refl)

module _ (once : ReadsOnce) (scripts : ScriptsOnce) (searches : SearchesOnce) (n : ℕ) where
  -- the second outcome where the theory text reads as this
  data Fixed (th : Theory) (e : Ending) : Type 0 where
    script_refused : (place : ℕ) (c : Cause) → FirstScriptCause th job.Prove (chain_script n) place c → e ≡ unread_ending 2 place c → Fixed th e
    ends : (sc : Script) (f : Found) → ReadsAsScript th job.Prove (chain_script n) sc → RewritingSearch th sc.blocks greatest_conduct f
        → e ≡ chain_ending th.signature n f → Fixed th e

  fixed : (th : Theory) (e : Ending) → ReadsAs (chain_theory n) th → Generates n e → Fixed th e
  fixed th e r (no_theory _ place c f is) = absurd (once.either (chain_theory n) th place c r f)
  fixed th e r (no_script _ u place c s f is) =
      let same : u ≡ th = once.theory (chain_theory n) th u r s in
      let P : Theory → Type 0 = λ v. FirstScriptCause v job.Prove (chain_script n) place c in script_refused place c (subst P same f) is
  fixed th e r (searched _ u sc f s q x is) =
      let same : u ≡ th = once.theory (chain_theory n) th u r s in
      let P : Theory → Type 0 = λ v. ReadsAsScript v job.Prove (chain_script n) sc in
      let Q : Theory → Type 0 = λ v. RewritingSearch v sc.blocks greatest_conduct f in
      ends sc f (subst P same q) (subst Q same x) (is ∙ ap (λ v. chain_ending v.signature n f) same)

  pub generates_alike : (d e : Ending) → Generates n d → Generates n e → AreLike d e
  generates_alike d e (no_theory _ p c f is) g = other e g
    where
      other : (e : Ending) → Generates n e → AreLike d e
      other e (no_theory _ q x h es) =
          let same = once.alike p q c x (chain_theory n) f h in
          by_equations d e (unread_ending 1 p c) (unread_ending 1 q x) is es (unread_like n 1 p q c x same.0 same.1)
      other e (no_script _ u q x r h es) = absurd (once.either (chain_theory n) u p c r f)
      other e (searched _ u sc y r q x es) = absurd (once.either (chain_theory n) u p c r f)
  generates_alike d e (no_script _ th p c r f is) g = other (fixed th e r g)
    where
      other : Fixed th e → AreLike d e
      other (script_refused q x h es) =
          let same = scripts.alike th job.Prove p q c x (chain_script n) f h in
          by_equations d e (unread_ending 2 p c) (unread_ending 2 q x) is es (unread_like n 2 p q c x same.0 same.1)
      other (ends sc y q x es) = absurd (scripts.either th job.Prove (chain_script n) sc p c q f)
  generates_alike d e (searched _ th sc f r q x is) g = other (fixed th e r g)
    where
      other : Fixed th e → AreLike d e
      other (script_refused p c h es) = absurd (scripts.either th job.Prove (chain_script n) sc p c q h)
      other (ends sd y k z es) =
          let same : sd ≡ sc = scripts.script th job.Prove (chain_script n) sc sd q k in
          let P : Script → Type 0 = λ v. RewritingSearch th v.blocks greatest_conduct y in
          let found : f ≡ y = searches th sc.blocks greatest_conduct f y x (subst P same z) in
          same_like d e (is ∙ ap (chain_ending th.signature n) found ∙ sym es)
