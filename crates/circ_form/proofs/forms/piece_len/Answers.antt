use Rattle.std.proofs.Common.{sym, ◌∙◌, ap, length, unwrap_or}
use Rattle.circ_form.proofs.Cutting.{cut_first}
use Rattle.circ_form.proofs.forms.piece_len.Goals as goal

pub returns-clause-cut : goal.returns-clause-cut
returns-clause-cut c =
    cut_first c.args.rest.now c.unwrap_or.result c.requires (sym c.is_special.ensures ∙ c.if-is_special.false)
    (c.unwrap_or.ensures ∙ ap (λ o. unwrap_or o (length c.args.rest.now)) c.special_at.ensures)
