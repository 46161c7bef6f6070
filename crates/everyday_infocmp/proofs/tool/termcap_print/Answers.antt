-- there are as many entries as the mode takes
use Rattle.std.proofs.Common.{◌≡◌, ◌∙◌, ◌∷◌, List, false, map, subst, sym}
use Rattle.ti_layout.specs.View.{Entry, entry_seen}
use Rattle.ti_layout.specs.declared.view.View.{View}
use Rattle.user_listing.specs.Entries.{entries_in}
use Rattle.everyday_infocmp.specs.Entries.{AreEntries, plain_entry}
use Rattle.everyday_infocmp.specs.TermcapListings.{AreTermcaps, lines_in}
use Rattle.everyday_infocmp.proofs.Files.{entries-plain, memory-bad}
use Rattle.everyday_infocmp.proofs.tool.termcap_print.Goals as goal

pub returns-in_default : goal.returns-in_default
returns-in_default c = memory-bad _ c.args.files.now

pub returns : goal.returns
returns c = memory-bad _ c.args.files.now

pub returns-in-Ok : goal.returns-in-Ok
returns-in-Ok c =
    let first = c.in-Some._first.now in
    let others = c.in-Some._others.now in
    let split : c.in_ok-views.views.items ≡ first ∷ others = sym c.deref.ensures.value ∙ c.in-Some.ensures.cases.0 in
    let are : AreEntries false c.args.files.now (map (λ view. plain_entry view) (first ∷ others)) =
    subst (λ (vs : List View). AreEntries false c.args.files.now (map (λ view. plain_entry view) vs)) split c.in_ok-views.ensures.ok in
    let limited = c.args.request.now.limited in
    let every = c.args.request.now.all in
    let form = lines_in c.args.request.now.joined c.args.request.now.layout in
    let all : AreTermcaps limited every form (map (λ view. entry_seen view) (first ∷ others)) c.in-Ok.text.items =
    subst (λ (vs : List View). AreTermcaps limited every form (map (λ view. entry_seen view) vs) c.in-Ok.text.items) (c.deref-2.ensures.value ∙ split) c.in-Ok.ensures in
    let text : AreTermcaps limited every form (entry_seen first ∷ entries_in (map (λ view. plain_entry view) others)) c.in-Ok.text.items =
    subst (λ (es : List Entry). AreTermcaps limited every form (entry_seen first ∷ es) c.in-Ok.text.items) (sym (entries-plain others)) all in
    rw (c.requires.listed, c.requires.plain) (plain_entry first, map (λ view. plain_entry view) others, are, text)
