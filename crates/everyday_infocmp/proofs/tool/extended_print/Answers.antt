-- there are as many entries as the mode takes
use Rattle.std.proofs.Common.{◌≡◌, ◌∙◌, ◌∷◌, List, map, subst, sym, true}
use Rattle.user_listing.specs.Entries.{extended_seen}
use Rattle.user_listing.specs.declared.entry.ExtendedEntry.{ExtendedEntry}
use Rattle.everyday_infocmp.specs.Entries.{AreEntries}
use Rattle.everyday_infocmp.proofs.Files.{has_others, memory-bad}
use Rattle.everyday_infocmp.proofs.tool.extended_print.Goals as goal

pub returns-in_default : goal.returns-in_default
returns-in_default c = memory-bad _ c.args.files.now

pub extended_text-requires : goal.extended_text-requires
extended_text-requires c =
    let split : c.in_ok-entries.entries.items ≡ c.in-Some.first.now ∷ c.in-Some.others.now = sym c.deref.ensures.value ∙ c.in-Some.ensures.cases.0 in
    let are : AreEntries true c.args.files.now (map (λ e. extended_seen e) (c.in-Some.first.now ∷ c.in-Some.others.now)) =
    subst (λ (es : List ExtendedEntry). AreEntries true c.args.files.now (map (λ e. extended_seen e) es)) split c.in_ok-entries.ensures.ok in
    has_others (λ e. extended_seen e) true c.args.files.now c.args.request.now.mode c.in-Some.first.now c.in-Some.others.now c.requires.count are

pub returns : goal.returns
returns c = memory-bad _ c.args.files.now
