use Rattle.kinds.proofs.choice.ChoiceKind.within.Goals as goal

pub returns : goal.returns
returns c =
    let d = c.is_subset.ensures in
    record { law = (λ h v. d.0 h v.0, λ all. d.1 (λ k. all (record { 0 = k }))) }
