use Rattle.std.proofs.Common.{◌≡◌, ◌∙◌, false, [], ap, refl}
use Rattle.lb_terms.specs.declared.term.Term.{Term}
use Rattle.lb_terms.specs.Selector.{selector_of}
use Rattle.lb_chain.specs.FirstAsked.{loose, Sets}
use Rattle.lb_chain.specs.Filing.{own_sets}
use Rattle.lb_chain.proofs.Asked.{asked, files_loose, files_masks, files_names}
use Rattle.lb_chain.proofs.Shapes.{own_loose, own_masks, own_names}
use Rattle.lb_chain.proofs.filing.file.Goals as goal

pub returns-in-Suffix-clause-names : goal.returns-in-Suffix-clause-names
returns-in-Suffix-clause-names c =
    let sets : Sets = record { names = c.in-Suffix.set; masks = []; is_loose = false } in
    let own : own_sets (selector_of c.first_asked.result.now) ≡ sets = ap (λ (t : Term). own_sets (selector_of t)) c.in-Suffix.is ∙ own_names c.in-Suffix.set in
    (files_names c.file_names.result c.args.term.now c.in-Suffix.set c.in-Suffix.set c.args.rank c.args.names.now c.file_names.new.names c.args.masks.now c.args.loose.now
    (asked c.args.term.now c.as_term.result.now c.first_asked.result.now sets c.as_term.ensures.term c.first_asked.ensures own) refl c.file_names.ensures.ok c.file_names.ensures.err).names

pub returns-in-Suffix-clause-no_names : goal.returns-in-Suffix-clause-no_names
returns-in-Suffix-clause-no_names c =
    let sets : Sets = record { names = c.in-Suffix.set; masks = []; is_loose = false } in
    let own : own_sets (selector_of c.first_asked.result.now) ≡ sets = ap (λ (t : Term). own_sets (selector_of t)) c.in-Suffix.is ∙ own_names c.in-Suffix.set in
    (files_names c.file_names.result c.args.term.now c.in-Suffix.set c.in-Suffix.set c.args.rank c.args.names.now c.file_names.new.names c.args.masks.now c.args.loose.now
    (asked c.args.term.now c.as_term.result.now c.first_asked.result.now sets c.as_term.ensures.term c.first_asked.ensures own) refl c.file_names.ensures.ok c.file_names.ensures.err).no_names

pub returns-in-Masks-clause-masks : goal.returns-in-Masks-clause-masks
returns-in-Masks-clause-masks c =
    let sets : Sets = record { names = []; masks = c.in-Masks.group; is_loose = false } in
    let own : own_sets (selector_of c.first_asked.result.now) ≡ sets = ap (λ (t : Term). own_sets (selector_of t)) c.in-Masks.is ∙ own_masks c.in-Masks.group in
    (files_masks c.file_masks.result c.args.term.now c.in-Masks.group c.as_slice.result.now c.args.rank c.args.names.now c.args.masks.now c.file_masks.new.masks c.args.loose.now
    (asked c.args.term.now c.as_term.result.now c.first_asked.result.now sets c.as_term.ensures.term c.first_asked.ensures own) c.as_slice.ensures c.file_masks.ensures.ok c.file_masks.ensures.err).masks

pub returns-in-Masks-clause-no_masks : goal.returns-in-Masks-clause-no_masks
returns-in-Masks-clause-no_masks c =
    let sets : Sets = record { names = []; masks = c.in-Masks.group; is_loose = false } in
    let own : own_sets (selector_of c.first_asked.result.now) ≡ sets = ap (λ (t : Term). own_sets (selector_of t)) c.in-Masks.is ∙ own_masks c.in-Masks.group in
    (files_masks c.file_masks.result c.args.term.now c.in-Masks.group c.as_slice.result.now c.args.rank c.args.names.now c.args.masks.now c.file_masks.new.masks c.args.loose.now
    (asked c.args.term.now c.as_term.result.now c.first_asked.result.now sets c.as_term.ensures.term c.first_asked.ensures own) c.as_slice.ensures c.file_masks.ensures.ok c.file_masks.ensures.err).no_masks

pub returns-in-Suffix-clause-loose : goal.returns-in-Suffix-clause-loose
returns-in-Suffix-clause-loose c =
    let sets : Sets = record { names = c.in-Suffix.set; masks = []; is_loose = false } in
    let own : own_sets (selector_of c.first_asked.result.now) ≡ sets = ap (λ (t : Term). own_sets (selector_of t)) c.in-Suffix.is ∙ own_names c.in-Suffix.set in
    (files_names c.file_names.result c.args.term.now c.in-Suffix.set c.in-Suffix.set c.args.rank c.args.names.now c.file_names.new.names c.args.masks.now c.args.loose.now
    (asked c.args.term.now c.as_term.result.now c.first_asked.result.now sets c.as_term.ensures.term c.first_asked.ensures own) refl c.file_names.ensures.ok c.file_names.ensures.err).loose

pub returns-in-Masks-clause-loose : goal.returns-in-Masks-clause-loose
returns-in-Masks-clause-loose c =
    let sets : Sets = record { names = []; masks = c.in-Masks.group; is_loose = false } in
    let own : own_sets (selector_of c.first_asked.result.now) ≡ sets = ap (λ (t : Term). own_sets (selector_of t)) c.in-Masks.is ∙ own_masks c.in-Masks.group in
    (files_masks c.file_masks.result c.args.term.now c.in-Masks.group c.as_slice.result.now c.args.rank c.args.names.now c.args.masks.now c.file_masks.new.masks c.args.loose.now
    (asked c.args.term.now c.as_term.result.now c.first_asked.result.now sets c.as_term.ensures.term c.first_asked.ensures own) c.as_slice.ensures c.file_masks.ensures.ok c.file_masks.ensures.err).loose

pub returns-in_default : goal.returns-in_default
returns-in_default c =
    let own : own_sets (selector_of c.first_asked.result.now) ≡ loose = own_loose c.first_asked.result.now c.in_default.not-Suffix c.in_default.not-Masks in
    let files = files_loose c.file.result c.args.term.now c.args.rank c.args.names.now c.args.masks.now c.args.loose.now c.file.new.self
    (asked c.args.term.now c.as_term.result.now c.first_asked.result.now loose c.as_term.ensures.term c.first_asked.ensures own) c.file.ensures.ok c.file.ensures.err in
    record { names = files.names; masks = files.masks; loose = files.loose; no_names = files.no_names; no_masks = files.no_masks; no_loose = files.no_loose }
