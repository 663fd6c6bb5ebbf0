-- The laws of the field chain, for any octets.
use Rattle.std.specs.Prelude.{◌≡◌, ◌↔◌, ◌⊎◌, ℕ, ◌+◌, ◌%◌, ◌≤◌, length, drop}
use mathlib.Core.List.{List, ◌++◌, Memᴰ}
use Rattle.header.specs.Claim.{Passes}
use Rattle.chain.specs.Chain.{padded, step_at, chain_refusal, sound_refusal, either_refusal, Chain}
use Rattle.chain.specs.Field.{fields_from, fields_of, AllInside, NothingAfterMac, DataChanged, ChainKept}
use Rattle.chain.specs.Content.{Content, chain_octets, contents_of, AllFit}
use Rattle.chain.specs.declared.cursor.Cursor.{Cursor}
use Rattle.chain.specs.declared.cursor.Field.{Field}
use Rattle.chain.specs.declared.cursor.Step.TheVariants.{Found}

-- F-5: a step that finds a field leads to the place right after its padding, and within the octets
abbrev pub PlaceReached : Type 0
PlaceReached = (s : List ℕ) (at : ℕ) (f : Field) (c : Cursor) → step_at s at ≡ Found f c → (c.at ≡ at + 4 + padded f.size) × (c.at ≤ length s)

-- the data of each field lies in the octets
abbrev pub FieldsInside : Type 0
FieldsInside = (s : List ℕ) (at : ℕ) → AllInside s (fields_from s at)

-- and starts at a multiple of 4, after the field's own header
abbrev pub FieldsAligned : Type 0
FieldsAligned = (s : List ℕ) (at : ℕ) (f : Field) → at % 4 ≡ 0 → Memᴰ f (fields_from s at) → (f.start % 4 ≡ 0) × (at + 4 ≤ f.start)

-- F-2: neither 4 nor 5 is given exactly where the octets are a chain
abbrev pub ChainsAccepted : Type 0
ChainsAccepted = (s : List ℕ) → chain_refusal s ≡ 0 ↔ Chain s

-- F-8, W205-2, W205-3: sound exactly when the header passes, what follows is a chain, and no field stands after the first MAC
abbrev pub SoundDatagrams : Type 0
SoundDatagrams = (s : List ℕ) (wanted : ℕ) → sound_refusal s wanted ≡ 0 ↔ (Passes s wanted × Chain (drop 48 s) × NothingAfterMac (fields_of s))

-- W205-4, W205-5: 13 exactly when only the last of the three fails: never where the header or a field, also one after the MAC, is wrong
abbrev pub AfterMacRefused : Type 0
AfterMacRefused = (s : List ℕ) (wanted : ℕ) → sound_refusal s wanted ≡ 13 ↔ (Passes s wanted × Chain (drop 48 s) × (NothingAfterMac (fields_of s) → ⊥))

-- fields that were written after p are read there, each with its type and its data
abbrev pub ContentsBack : Type 0
ContentsBack = (p : List ℕ) (cs : List Content) (at : ℕ) → length p ≡ at → AllFit cs
    → contents_of (p ++ chain_octets cs) (fields_from (p ++ chain_octets cs) at) ≡ cs

-- W209-8: sound with both modes allowed exactly when sound as a request or as a response
abbrev pub EitherSound : Type 0
EitherSound = (s : List ℕ) → either_refusal s ≡ 0 ↔ ((sound_refusal s 3 ≡ 0) ⊎ (sound_refusal s 4 ≡ 0))

-- W209-15: other data in one field change nothing of the chain
abbrev pub DataEdited : Type 0
DataEdited = (s t : List ℕ) (f : Field) → Memᴰ f (fields_of s) → DataChanged f s t → ChainKept f s t
