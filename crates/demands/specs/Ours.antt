-- Our version: its members are the very definitions that the contracts of the code cite.
use Rattle.std.specs.Prelude.{List, [], ℕ, length}
use Rattle.rules.specs.Bytes.{splice}
use Rattle.rules.specs.Sectors.{sectors_in, written}
use Rattle.rules.specs.Verdict.{verdict}
use Rattle.rules.specs.Name.{wrong_place}
use Rattle.rules.specs.Outcome.{Outcome, answer_of, amount_of, named_answer_of, named_amount_of, rename_answer_of}
use Rattle.rules.specs.Calls.Format.{format_number, after_format}
use Rattle.rules.specs.Calls.Summary.{free_count_of, summary_of, summary_answer}
use Rattle.rules.specs.Calls.Entry.{entry_of, entry_row}
use Rattle.rules.specs.Calls.Read.{read_of}
use Rattle.rules.specs.Calls.Load.{load_of}
use Rattle.rules.specs.Calls.Listing.{listing_of}
use Rattle.rules.specs.Calls.Create.{create_of}
use Rattle.rules.specs.Calls.Append.{append_of}
use Rattle.rules.specs.Calls.Overwrite.{overwrite_of}
use Rattle.rules.specs.Calls.Protect.{protect_of, unprotect_of, clear_of}
use Rattle.rules.specs.Calls.Store.{store_of}
use Rattle.rules.specs.Calls.Delete.{delete_of}
use Rattle.rules.specs.Calls.Rename.{rename_of}
use Rattle.rules.specs.Calls.Repair.{repair_of}
use Rattle.rules.specs.Calls.Pack.{pack_number, after_pack}
use Rattle.rules.specs.declared.Layout.{Layout}
use Rattle.demands.specs.Call as call
use Rattle.demands.specs.Call.{Names, Form, AnsweredTo, Answered, Look, Change, Version, names_of}

-- what a call that takes names answers with a number
unfoldable pub answered : (names : Names) → ℕ → AnsweredTo names
answered (call.one name) number = named_answer_of (wrong_place name) number
answered (call.both old new) number = rename_answer_of (wrong_place old) (wrong_place new) number

-- what a look gives: its answer, and the bytes that it puts at the front of the buffer; packing fills the whole of it
pub record Seen (form : Form) : Type 0 where
  pub answer : Answered form
  pub buffer : List ℕ

abbrev putting : {form : Form} → Answered form → (bytes buffer : List ℕ) → Seen form
putting answer bytes buffer = record { answer = answer; buffer = splice buffer 0 bytes }

unfoldable pub seen : Layout → {form : Form} → Look form → (buffer image : List ℕ) → Seen form
seen layout call.judge buffer image = putting (verdict layout image) [] buffer
seen layout call.free_count buffer image = putting (amount_of (free_count_of layout image)) [] buffer
seen layout call.summarize buffer image = putting (summary_answer layout image) (summary_of layout image).bytes buffer
seen layout (call.entry directory place) buffer image =
    putting (record { answer = answer_of (entry_of layout image directory place (length buffer)).number; row = entry_row layout image directory place (length buffer) }) (entry_of layout image directory place (length buffer)).bytes buffer
seen layout (call.read directory name offset) buffer image =
    putting (answered (call.one name) (read_of layout image directory name offset (length buffer)).number) (read_of layout image directory name offset (length buffer)).bytes buffer
seen layout (call.load directory name) buffer image =
    putting (named_amount_of (wrong_place name) (load_of layout image directory name (length buffer))) (load_of layout image directory name (length buffer)).bytes buffer
seen layout (call.list directory) buffer image = putting (amount_of (listing_of layout image directory (length buffer))) (listing_of layout image directory (length buffer)).bytes buffer
seen layout call.pack buffer image = record { answer = answer_of (pack_number layout image buffer); buffer = after_pack layout image buffer }

-- what a change of the file of that name in a directory gives: its number, and the sectors that it writes
unfoldable pub outcome : Layout → Change → (image : List ℕ) (directory : ℕ) (name : List ℕ) → Outcome
outcome layout (call.create status record_length records_per_sector) image directory name = create_of layout image directory name status record_length records_per_sector
outcome layout (call.append bytes) image directory name = append_of layout image directory name bytes
outcome layout (call.overwrite offset bytes) image directory name = overwrite_of layout image directory name offset bytes
outcome layout call.protect image directory name = protect_of layout image directory name
outcome layout call.unprotect image directory name = unprotect_of layout image directory name
outcome layout call.clear image directory name = clear_of layout image directory name
outcome layout (call.store bytes) image directory name = store_of layout image directory name bytes
outcome layout call.delete image directory name = delete_of layout image directory name
outcome layout (call.rename new) image directory name = rename_of layout image directory name new

unfoldable pub ours : Layout → Version
ours layout (call.look look buffer) image = record { answer = (seen layout look buffer image).answer; buffer = (seen layout look buffer image).buffer; image = image; order = [] }
ours layout (call.change directory name change) image =
    let writes = (outcome layout change image directory name).writes in
    record { answer = answered (names_of name change) (outcome layout change image directory name).number; buffer = []; image = written image writes; order = sectors_in writes }
ours layout call.repair image = record { answer = answer_of (repair_of layout image).number; buffer = []; image = written image (repair_of layout image).writes; order = sectors_in (repair_of layout image).writes }
ours layout (call.format n name geometry) image = record { answer = answered (call.one name) (format_number image n name); buffer = []; image = after_format image n name geometry; order = [] }
