-- What the code reads of a descriptor, field by field, is what the definitions read of it.
use mathlib.Core.Path.{◌≡◌}
use mathlib.Core.List.{List}
use Prim.Native.Nat.{ℕ}
use Rattle.rules.specs.Bytes.{byte_at}
use Rattle.rules.specs.Kind.{kind_of}
use Rattle.rules.specs.Descriptor.{status_of, sectors_of, file_kind}
use Rattle.rules.specs.declared.Kind.{Kind}

-- the kind, from the four fields that give it
pub kind_read : (descriptor : List ℕ) {status sectors end_offset record_length : ℕ} {kind : Kind} → status ≡ status_of descriptor → sectors ≡ sectors_of descriptor
    → end_offset ≡ byte_at descriptor 16 → record_length ≡ byte_at descriptor 17 → kind ≡ kind_of status sectors end_offset record_length → kind ≡ file_kind descriptor
unfolding file_kind
kind_read descriptor status sectors end_offset record_length is = rw (is, status, sectors, end_offset, record_length)
