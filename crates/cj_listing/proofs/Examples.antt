-- What lines look like.
use Rattle.std.proofs.Common.{◌≡◌, [], ◌∷◌, codes, refl}
use Rattle.std.specs.Fmt.{digits}
use Rattle.std.specs.declared.option.Option.TheVariants.{None, Some}
use Rattle.cj_log.specs.declared.item.LogItem.TheVariants.{Entry, Marker}
use Rattle.cj_listing.specs.Listing.{log_item_text}

-- an entry
begins : log_item_text [] (Entry (record { number = 3; session = 1; seq = 2; tx = 0; user = codes "ann"; text = codes "BEGIN" })) ≡ codes "3 session=1 tx=0 user=ann BEGIN"
unfolding digits
begins = refl

-- one of no user
of_no_user : log_item_text [] (Entry (record { number = 1; session = 1; seq = 1; tx = 0; user = []; text = codes "ROLLBACK" })) ≡ codes "1 session=1 tx=0 user= ROLLBACK"
unfolding digits
of_no_user = refl

-- a marker that names the dump of a backend
of_backend : log_item_text (codes "b0" ∷ codes "b1" ∷ []) (Marker (record { after = 2; name = codes "d"; b = Some 1 })) ≡ codes "marker d after 2 backend=b1"
unfolding digits
of_backend = refl

-- of none
of_none : log_item_text (codes "b0" ∷ []) (Marker (record { after = 2; name = codes "d"; b = None })) ≡ codes "marker d after 2 backend=-"
unfolding digits
of_none = refl

-- of one without a name
without_name : log_item_text (codes "b0" ∷ []) (Marker (record { after = 2; name = codes "d"; b = Some 7 })) ≡ codes "marker d after 2 backend=7"
unfolding digits
without_name = refl
