-- there are as many entries as the mode takes
use Rattle.std.proofs.Common.{◌≡◌, ◌∙◌, ◌∷◌, List, ap, false, map, subst, sym}
use Rattle.ti_layout.specs.View.{Entry, entry_seen}
use Rattle.ti_layout.specs.declared.view.View.{View}
use Rattle.user_listing.specs.Entries.{entries_in}
use Rattle.everyday_infocmp.specs.Entries.{AreEntries, plain_entry}
use Rattle.everyday_infocmp.specs.PlainListings.{plain_text}
use Rattle.everyday_infocmp.proofs.Files.{entries-plain, has_others, memory-bad}
use Rattle.everyday_infocmp.proofs.tool.plain_print.Goals as goal

pub returns-in_default : goal.returns-in_default
returns-in_default c = memory-bad _ c.args.files.now

pub plain_text-requires : goal.plain_text-requires
plain_text-requires c =
    let split : c.in_ok-views.views.items ≡ c.in-Some.first.now ∷ c.in-Some.others.now = sym c.deref.ensures.value ∙ c.in-Some.ensures.cases.0 in
    let are : AreEntries false c.args.files.now (map (λ e. plain_entry e) (c.in-Some.first.now ∷ c.in-Some.others.now)) =
    subst (λ (es : List View). AreEntries false c.args.files.now (map (λ e. plain_entry e) es)) split c.in_ok-views.ensures.ok in
    has_others (λ e. plain_entry e) false c.args.files.now c.args.request.now.mode c.in-Some.first.now c.in-Some.others.now c.requires.count are

pub returns : goal.returns
returns c = memory-bad _ c.args.files.now

pub returns-in-Ok : goal.returns-in-Ok
returns-in-Ok c =
    let split : c.in_ok-views.views.items ≡ c.in-Some.first.now ∷ c.in-Some.others.now = sym c.deref.ensures.value ∙ c.in-Some.ensures.cases.0 in
    let are : AreEntries false c.args.files.now (map (λ view. plain_entry view) (c.in-Some.first.now ∷ c.in-Some.others.now)) =
    subst (λ (vs : List View). AreEntries false c.args.files.now (map (λ view. plain_entry view) vs)) split c.in_ok-views.ensures.ok in
    let m = c.args.request.now.mode in
    let layout = c.args.request.now.layout in
    let shown = entries-plain c.in-Some.others.now in
    let text : c.in-Ok.text.items ≡ plain_text m (entry_seen c.in-Some.first.now) (entries_in (map (λ view. plain_entry view) c.in-Some.others.now)) layout =
    c.in-Ok.ensures ∙ ap (λ (es : List Entry). plain_text m (entry_seen c.in-Some.first.now) es layout) (sym shown) in
    rw (c.requires.listed, c.requires.plain) (plain_entry c.in-Some.first.now, map (λ view. plain_entry view) c.in-Some.others.now, are, text)
