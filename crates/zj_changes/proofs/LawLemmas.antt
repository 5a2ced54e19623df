-- The laws, from the lemmas on changes.
use Rattle.zj_layout.proofs.Changed.{still_stored, others_hold}
use Rattle.zj_changes.specs.Laws.{ShownIsHeld, ResizedKeepsOthers, MadeIsInserted, UnlinkedIsRemoved, BytesAreReplaced, RangeIsOverwritten, CutIsTruncated, MovedIsRenamed, MovedOverIsRenamed, RenamedByPaths}
use Rattle.zj_changes.proofs.Resized.{resized}
use Rattle.zj_changes.proofs.Made.{entry_made}
use Rattle.zj_changes.proofs.Renamed.{is_moved}
use Rattle.zj_changes.proofs.Calls.{shows_holds, holds_shows, entry_removed, entry_moved, entry_moved_over, bytes_replaced, range_overwritten, file_truncated}

pub shown_is_held : ShownIsHeld
shown_is_held sizes state tree shape = (λ shows. shows_holds sizes state tree shows, λ holds. holds_shows sizes state tree shape holds)

pub resized_keeps_others : ResizedKeepsOthers
resized_keeps_others sizes old new number node s r = (still_stored sizes old new s number (resized sizes old new s number node r), others_hold sizes old new s number (resized sizes old new s number node r))

pub made_is_inserted : MadeIsInserted
made_is_inserted sizes old new tree path dir link kind content h to_dir absent is m = entry_made sizes old new tree h path dir link kind content to_dir absent is m

pub unlinked_is_removed : UnlinkedIsRemoved
unlinked_is_removed sizes old new tree path dir place link h to_dir there empty a = entry_removed sizes old new tree h path dir place link to_dir there empty a

pub bytes_are_replaced : BytesAreReplaced
bytes_are_replaced sizes old new tree path file blocks bytes h to_file a = bytes_replaced sizes old new tree h path file blocks bytes to_file a

pub range_is_overwritten : RangeIsOverwritten
range_is_overwritten sizes old new tree path file at bytes blocks h leads a = range_overwritten sizes old new tree h path file at bytes blocks leads a

pub cut_is_truncated : CutIsTruncated
cut_is_truncated sizes old new tree path file size blocks h leads a = file_truncated sizes old new tree h path file size blocks leads a

pub moved_is_renamed : MovedIsRenamed
moved_is_renamed sizes old new tree path dir place link to_path to_dir name h there at to absent outside a = entry_moved sizes old new tree h path dir place link to_path to_dir name there at to absent outside a

pub moved_over_is_renamed : MovedOverIsRenamed
moved_over_is_renamed sizes old new tree path dir place link to_path to_dir to_place over h there at to onto empty outside a = entry_moved_over sizes old new tree h path dir place link to_path to_dir to_place over there at to onto empty outside a

pub renamed_by_paths : RenamedByPaths
renamed_by_paths tree from to outside below = is_moved tree from to outside below
