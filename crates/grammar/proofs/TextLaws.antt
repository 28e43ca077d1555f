-- The laws of texts, put together.
use Rattle.std.proofs.Common.{[], ◌∷◌, ap, ◌∙◌}
use Rattle.grammar.specs.Faults.{formula, fault}
use Rattle.grammar.specs.TextLaws.{TextLaws}
use Rattle.grammar.proofs.Complete.{spells_claim}
use Rattle.grammar.proofs.OneClaim.{one_claim}
use Rattle.grammar.proofs.Spelling.{claim_fault}

pub text_laws : TextLaws
text_laws = record {
  one_claim = one_claim;
  no_fault = λ n long items. (
    spells_claim n long items,
    λ h. ap (fault n long (formula 0 ∷ [])) h.1 ∙ claim_fault n long 0 h.0 h.2 [] [],
  );
}
