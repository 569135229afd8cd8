-- Case M of the paper, built by the calls themselves: format 64 sectors as SHELF; store ALPHA, 300 bytes; create NOTES, status 80 hex, length 80; append one sector to NOTES.
use Rattle.std.specs.Prelude.{◌≡◌, cond, List, [], ◌∷◌, ◌++◌, ℕ, replicate}
use Rattle.rules.specs.Sectors.{written}
use Rattle.rules.specs.Outcome.{Outcome}
use Rattle.rules.specs.Calls.Format.{Geometry, formatted}
use Rattle.rules.specs.Calls.Create.{create_of}
use Rattle.rules.specs.Calls.Append.{append_of}
use Rattle.rules.specs.Calls.Store.{store_of}
use Rattle.rules.specs.Calls.Listing.{listing_text}
use Rattle.rules.specs.declared.Layout.{Layout}

abbrev pub shelf : List ℕ
shelf = 0x53 ∷ (0x48 ∷ (0x45 ∷ (0x4C ∷ (0x46 ∷ replicate 5 32))))

abbrev pub alpha : List ℕ
alpha = 0x41 ∷ (0x4C ∷ (0x50 ∷ (0x48 ∷ (0x41 ∷ replicate 5 32))))

abbrev pub notes : List ℕ
notes = 0x4E ∷ (0x4F ∷ (0x54 ∷ (0x45 ∷ (0x53 ∷ replicate 5 32))))

abbrev drive : Geometry
drive = record { sectors_per_track = 9; tracks = 40; sides = 1; density = 1 }

-- the image after a call
abbrev after : (List ℕ → Outcome) → List ℕ → List ℕ
after call image = written image (call image).writes

unfoldable pub case_m : Layout → List ℕ
case_m layout =
    after (λ image. append_of layout image 0 notes (replicate 256 0x42))
    (after (λ image. create_of layout image 0 notes 0x80 80 3)
    (after (λ image. store_of layout image 0 alpha (replicate 300 0x41)) (formatted 64 shelf drive)))

-- the end of a file's line, which by the rule with marks has its mark before the newline
abbrev ending : Layout → List ℕ
ending layout = cond layout.marks (0x20 ∷ (0x4D ∷ (0x0A ∷ []))) (0x0A ∷ [])

-- SHELF 64 57, ALPHA PROGRAM 300 2 U, NOTES DIS/VAR 80 1 U, each with its newline; by the rule with marks a space and M before those of the files
abbrev pub printed : Layout → List ℕ
printed layout =
    (0x53 ∷ (0x48 ∷ (0x45 ∷ (0x4C ∷ (0x46 ∷ (0x20 ∷ (0x36 ∷ (0x34 ∷ (0x20 ∷ (0x35 ∷ (0x37 ∷ (0x0A ∷ []))))))))))))
    ++ ((0x41 ∷ (0x4C ∷ (0x50 ∷ (0x48 ∷ (0x41 ∷ (0x20 ∷ (0x50 ∷ (0x52 ∷ (0x4F ∷ (0x47 ∷ (0x52 ∷ (0x41 ∷ (0x4D ∷ (0x20 ∷ (0x33 ∷ (0x30 ∷ (0x30 ∷ (0x20 ∷ (0x32 ∷ (0x20 ∷ (0x55 ∷ ending layout)))))))))))))))))))))
    ++ (0x4E ∷ (0x4F ∷ (0x54 ∷ (0x45 ∷ (0x53 ∷ (0x20 ∷ (0x44 ∷ (0x49 ∷ (0x53 ∷ (0x2F ∷ (0x56 ∷ (0x41 ∷ (0x52 ∷ (0x20 ∷ (0x38 ∷ (0x30 ∷ (0x20 ∷ (0x31 ∷ (0x20 ∷ (0x55 ∷ ending layout)))))))))))))))))))))

-- its listing is what the paper prints
unfoldable pub CaseListed : Layout → Type 0
CaseListed layout = listing_text layout (case_m layout) 1 ≡ printed layout
