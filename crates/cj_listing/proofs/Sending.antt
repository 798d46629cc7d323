-- A listing that is written line by line.
use Rattle.std.proofs.Common.{◌≡◌, ℕ, ◌+◌, ◌<◌, List, ◌++◌, length, drop, get_or, Option, Err, ap, subst}
use Rattle.std.specs.Io.KnownBytes.{Appends}
use Rattle.cj_log.specs.declared.item.LogItem.{LogItem}
use Rattle.cj_outside.specs.declared.sink.OutError.{OutError}
use Rattle.cj_outside.specs.Streams.{WritesAll}
use Rattle.cj_outside.proofs.Sent.{Sent, sent_more, sent_part, drop_item}
use Rattle.cj_listing.specs.Listing.{item_line, listing}

-- before item i is written, what is left begins with its line
pub leaves : (names : List (List ℕ)) (items : List LogItem) (i : ℕ) (item : LogItem) (a b : Option (List ℕ))
    → i < length items → item ≡ get_or items i item → Sent a b (listing names (drop i items)) (listing names items)
    → Sent a b (item_line names item ++ listing names (drop (i + 1) items)) (listing names items)
leaves names items i item a b lt is sent =
    subst (λ (left : List ℕ). Sent a b left (listing names items)) (ap (listing names) (drop_item items i item lt is)) sent

-- its line is written, and those behind it are left
pub sent_line : (names : List (List ℕ)) (items : List LogItem) (i : ℕ) (item : LogItem) (a b c : Option (List ℕ))
    → i < length items → item ≡ get_or items i item → Sent a b (listing names (drop i items)) (listing names items)
    → Appends b c (item_line names item) → Sent a c (listing names (drop (i + 1) items)) (listing names items)
sent_line names items i item a b c lt is sent line =
    sent_more a b c (item_line names item) (listing names (drop (i + 1) items)) (listing names items) (leaves names items i item a b lt is sent) line

-- its line is cut short, and so is the listing
pub sent_line_part : (names : List (List ℕ)) (items : List LogItem) (i : ℕ) (item : LogItem) (a b c : Option (List ℕ)) (e : OutError)
    → i < length items → item ≡ get_or items i item → Sent a b (listing names (drop i items)) (listing names items)
    → WritesAll b c (item_line names item) (Err e) → WritesAll a c (listing names items) (Err e)
sent_line_part names items i item a b c e lt is sent line =
    sent_part a b c (item_line names item) (listing names (drop (i + 1) items)) (listing names items) e (leaves names items i item a b lt is sent) line
