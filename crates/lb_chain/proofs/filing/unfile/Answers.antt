use Rattle.std.proofs.Common.{◌≡◌, false, [], ap, ◌∙◌, refl}
use Rattle.lb_terms.specs.declared.term.Term.{Term}
use Rattle.lb_terms.specs.Selector.{selector_of}
use Rattle.lb_chain.specs.FirstAsked.{loose, Sets}
use Rattle.lb_chain.specs.Filing.{own_sets}
use Rattle.lb_chain.proofs.Asked.{asked, unfiles_loose, unfiles_masks, unfiles_names}
use Rattle.lb_chain.proofs.Shapes.{own_loose, own_masks, own_names}
use Rattle.lb_chain.proofs.filing.unfile.Goals as goal

pub returns-in-Suffix-clause-names : goal.returns-in-Suffix-clause-names
returns-in-Suffix-clause-names c =
    let sets : Sets = record { names = c.in-Suffix.set; masks = []; is_loose = false } in
    let own : own_sets (selector_of c.first_asked.result.now) ≡ sets = ap (λ (t : Term). own_sets (selector_of t)) c.in-Suffix.is ∙ own_names c.in-Suffix.set in
    (unfiles_names c.args.term.now c.in-Suffix.set c.in-Suffix.set c.args.rank c.args.names.now c.unfile_names.new.names c.args.masks.now c.args.loose.now
    (asked c.args.term.now c.as_term.result.now c.first_asked.result.now sets c.as_term.ensures.term c.first_asked.ensures own) refl c.unfile_names.ensures).names

pub returns-in-Masks-clause-masks : goal.returns-in-Masks-clause-masks
returns-in-Masks-clause-masks c =
    let sets : Sets = record { names = []; masks = c.in-Masks.group; is_loose = false } in
    let own : own_sets (selector_of c.first_asked.result.now) ≡ sets = ap (λ (t : Term). own_sets (selector_of t)) c.in-Masks.is ∙ own_masks c.in-Masks.group in
    (unfiles_masks c.args.term.now c.in-Masks.group c.as_slice.result.now c.args.rank c.args.names.now c.args.masks.now c.unfile_masks.new.masks c.args.loose.now
    (asked c.args.term.now c.as_term.result.now c.first_asked.result.now sets c.as_term.ensures.term c.first_asked.ensures own) c.as_slice.ensures c.unfile_masks.ensures).masks

pub returns-in-Suffix-clause-loose : goal.returns-in-Suffix-clause-loose
returns-in-Suffix-clause-loose c =
    let sets : Sets = record { names = c.in-Suffix.set; masks = []; is_loose = false } in
    let own : own_sets (selector_of c.first_asked.result.now) ≡ sets = ap (λ (t : Term). own_sets (selector_of t)) c.in-Suffix.is ∙ own_names c.in-Suffix.set in
    (unfiles_names c.args.term.now c.in-Suffix.set c.in-Suffix.set c.args.rank c.args.names.now c.unfile_names.new.names c.args.masks.now c.args.loose.now
    (asked c.args.term.now c.as_term.result.now c.first_asked.result.now sets c.as_term.ensures.term c.first_asked.ensures own) refl c.unfile_names.ensures).loose

pub returns-in-Masks-clause-loose : goal.returns-in-Masks-clause-loose
returns-in-Masks-clause-loose c =
    let sets : Sets = record { names = []; masks = c.in-Masks.group; is_loose = false } in
    let own : own_sets (selector_of c.first_asked.result.now) ≡ sets = ap (λ (t : Term). own_sets (selector_of t)) c.in-Masks.is ∙ own_masks c.in-Masks.group in
    (unfiles_masks c.args.term.now c.in-Masks.group c.as_slice.result.now c.args.rank c.args.names.now c.args.masks.now c.unfile_masks.new.masks c.args.loose.now
    (asked c.args.term.now c.as_term.result.now c.first_asked.result.now sets c.as_term.ensures.term c.first_asked.ensures own) c.as_slice.ensures c.unfile_masks.ensures).loose

pub returns-in_default : goal.returns-in_default
returns-in_default c =
    let own : own_sets (selector_of c.first_asked.result.now) ≡ loose = own_loose c.first_asked.result.now c.in_default.not-Suffix c.in_default.not-Masks in
    let unfiles = unfiles_loose c.args.term.now c.args.rank c.args.names.now c.args.masks.now c.args.loose.now c.unfile.new.self
    (asked c.args.term.now c.as_term.result.now c.first_asked.result.now loose c.as_term.ensures.term c.first_asked.ensures own) c.unfile.ensures in
    record { names = unfiles.names; masks = unfiles.masks; loose = unfiles.loose }
