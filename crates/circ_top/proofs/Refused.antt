-- Refusals of a command, and their texts.
use Rattle.std.proofs.Common.{◌≡◌, ℕ, List, sym, ◌∙◌, subst}
use Rattle.std.proofs.lemmas.Option.{same_Some}
use Rattle.circ_read.specs.declared.cause.Cause.{Cause}
use Rattle.circ_files.specs.Files.{Held, Refusal, RefusesFile}
use Rattle.circ_files.specs.Like.{IsLikeCause, IsLike, another_count, like_cause}
use Rattle.circ_status.specs.Texts.{too_long_text}
use Rattle.circ_status.specs.declared.status.Status.{Status}
use Rattle.circ_status.specs.declared.status.Status.TheVariants as status
use Rattle.circ_files.proofs.FileFaults.{long_file, IsOneWay}
use Rattle.circ_top.specs.Command.{Command}
use Rattle.circ_top.specs.Refusals.{place_text, refusal_text}

pub unreadable_like : (k : Command) (f g p q : ℕ) (c d : Cause) → f ≡ g → p ≡ q → IsLikeCause c d
    → IsLike (status.Unreadable f p c) (refusal_text k (status.Unreadable f p c)) (status.Unreadable g q d) (refusal_text k (status.Unreadable g q d))
unreadable_like k f g p q c d e h l =
    let text : Status → List ℕ = refusal_text k in
    let P : ℕ → Type 0 = λ x. IsLike (status.Unreadable f p c) (text (status.Unreadable f p c)) (status.Unreadable x q d) (text (status.Unreadable x q d)) in
    let Q : ℕ → Type 0 = λ x. IsLike (status.Unreadable f p c) (text (status.Unreadable f p c)) (status.Unreadable f x d) (text (status.Unreadable f x d)) in
    subst P e (subst Q h (like_cause (place_text k f) f p c d l))

-- two refusals of one file are alike
pub refused_alike : (k : Command) (held : Held) (file : ℕ) (name : List ℕ) (N : Refusal) (s r : Status) → IsOneWay N → RefusesFile held file name N s
    → RefusesFile held file name N r
    → IsLike s (refusal_text k s) r (refusal_text k r)
refused_alike k held file name N (status.TooLong f n) (status.TooLong g m) o a b =
    let P : ℕ → Type 0 = λ x. IsLike (status.TooLong f n) (too_long_text f) (status.TooLong x m) (too_long_text x) in
    subst P (a.0 ∙ sym b.0) (another_count f n m)
refused_alike k held file name N (status.TooLong f n) (status.Unreadable g p d) o a b = absurd (long_file held name n (N p d) a.1 b.1)
refused_alike k held file name N (status.Unreadable f p d) (status.TooLong g m) o a b = absurd (long_file held name m (N p d) b.1 a.1)
refused_alike k held file name N (status.Unreadable f p c) (status.Unreadable g q d) o a b =
    let x = a.1 in
    let y = b.1 in
    let P : List ℕ → Type 0 = N p c in
    let w = o p q c d y.bytes (subst P (same_Some x.bytes y.bytes (sym x.bytes_are ∙ y.bytes_are)) x.are) y.are in
    unreadable_like k f g p q c d (a.0 ∙ sym b.0) w.0 w.1
refused_alike k held file name N (status.TooLong f n) r o a b = absurd b
refused_alike k held file name N (status.Unreadable f p d) r o a b = absurd b
refused_alike k held file name N s r o a b = absurd a
