use Rattle.std.proofs.Common.{◌≡◌, ℕ, Bool, true, false, List, ap, ap₂, ◌∙◌}
use Rattle.ti_layout.specs.Values.{Contents}
use Rattle.ti_layout.specs.View.{names_of, view_contents}
use Rattle.ti_layout.specs.declared.view.View.{View}
use Rattle.ti_list.specs.Listing.{listing}
use Rattle.user_extension.specs.View.{read_rows}
use Rattle.user_extension.specs.declared.view.Extension.{Extension}
use Rattle.user_listing.specs.Listing.{extended_listing}
use Rattle.everyday_sources.specs.Installed.{block_names, layout, listing_of}
use Rattle.everyday_sources.proofs.installed.installed.Goals as goal

pub returns-then-not-branch : goal.returns-then-not-branch
returns-then-not-branch c =
    let has = rw (c.names.ensures, c.if-not-branch.true) at c.in_ok-has_name-in-Ok.ensures in
    (c.in-Ok.view, c.in-Ok.extension, rw (c.in-Ok.view-is, c.in-Ok.extension-is) c.in-Ok.ensures, has)

-- with other names and what is in the other sections, the listing is that of an entry with these names
same_listing : (user_defined : Bool) (field other : List ℕ) (changed view : View) (extension : Extension) → field ≡ other
    → view_contents changed ≡ view_contents view → listing_of user_defined field changed extension ≡ listing_of user_defined other view extension
same_listing false field other changed view extension names held = ap₂ (λ (f : List ℕ) (table : Contents). listing f table layout) names held
same_listing true field other changed view extension names held =
    ap₂ (λ (f : List ℕ) (table : Contents). extended_listing (record { entry = record { names = f; contents = table }; rows = read_rows extension }) layout)
    names held

pub returns-in_ok-listing_of-in-Ok : goal.returns-in_ok-listing_of-in-Ok
returns-in_ok-listing_of-in-Ok c =
    let has = rw (c.names.ensures, c.if-not-branch.false) at c.in_ok-has_name-in-Ok.ensures in
    let names = c.with_names-view.ensures.names ∙ c.block_names.ensures ∙ ap (λ (f : List ℕ). block_names f c.args.name.now) c.names-in-Ok.ensures in
    let same = same_listing c.args.user_defined (names_of c.with_names-view.result) (block_names (names_of c.in-Ok.view) c.args.name.now) c.with_names-view.result
    c.in-Ok.view c.in-Ok.extension names c.with_names-view.ensures.contents in
    (c.in-Ok.view, c.in-Ok.extension, rw (c.in-Ok.view-is, c.in-Ok.extension-is) c.in-Ok.ensures, has, c.in_ok-listing_of-in-Ok.ensures ∙ same)
