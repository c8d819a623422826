use Rattle.std.proofs.Common.{sym, ap, subst, ◌∙◌}
use Rattle.std.specs.List.{Contains}
use Rattle.circ_lexer.specs.TokenList.{tokens_of}
use Rattle.circ_theory.specs.Signature.{IsSort}
use Rattle.circ_script.specs.Drafts.{first_draft}
use Rattle.circ_script.specs.Steps.{GivesScriptFrom}
use Rattle.circ_script.proofs.Walk.{script_as}
use Rattle.circ_script.proofs.reader.read_tokens.Goals as goal

pub put_vars-requires : goal.put_vars-requires
put_vars-requires c = λ d h.
    let signature = ap (λ th. th.signature) c.read_all-script.ensures.kept ∙ ap (λ th. th.signature) c.in-Ok.ensures.same in
    subst (λ sig. IsSort sig d.sort) (sym signature) (c.known-2.ensures.variables d (subst (λ vs. Contains vs d) c.in-Ok.ensures.vars h))

pub returns-in-Ok-clause-gives : goal.returns-in-Ok-clause-gives
returns-in-Ok-clause-gives c =
    let ts = c.args.tokens.now in
    script_as c.args.theory.now c.args.job ts.source (tokens_of ts) c.known.ensures.tokens c.read_all-script.result
    (subst (λ th. GivesScriptFrom c.read_all-script.result c.args.job (first_draft th) (tokens_of ts)) c.in-Ok.ensures.same c.read_all-script.ensures.gives)
