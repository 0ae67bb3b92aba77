-- What is seen of a store over a folder, and what it keeps true of it (this project's).
use Rattle.std.specs.Prelude.{◌≡◌, refl, ◌++◌, true, ℕ, List, [], length, Option, Some, None, IfSome}
use Rattle.std.specs.Coded.{Coded, code_by, coded×, coded_ℕ, coded_list, coded_option}
use base.Stored.{coded_sub}
use Rattle.std.specs.Option.{option_map}
use Rattle.std.specs.FinMap as map
use Rattle.vol_base.specs.Outside.{Objects, Draft, HaveBytes, IsTold, Passes}
use Rattle.folder_store.specs.Disks.{Disk, Moment, Stands, file_at, part_end, is_object}
use Rattle.folder_store.specs.ObjectBytes.{have_bytes_once}

-- a file is open for reading that stands at an object's path, and was that long
pub record IsOpen (d : Disk) (name : List ℕ) (number : Option ℕ) (len : ℕ) : Type 0 where
  pub file : ℕ
  pub opened : number ≡ Some file
  pub stands : file_at d name ≡ Some file
  pub is : is_object name ≡ true
  pub length_is : len ≡ length (d.holds file)

-- a file is open for writing that stands at its path alone, and is that long
pub record IsDraft (d : Disk) (name path : List ℕ) (number len : ℕ) : Type 0 where
  pub path_is : path ≡ name ++ part_end
  pub stands : file_at d path ≡ Some number
  pub alone : (other : List ℕ) → file_at d other ≡ Some number → other ≡ path
  pub is : is_object name ≡ true
  pub length_is : len ≡ length (d.holds number)

-- the objects stay as they are, and so does what their files hold
pub record Spares (d e : Disk) : Type 0 where
  pub paths : (path : List ℕ) → is_object path ≡ true → file_at e path ≡ file_at d path
  pub bytes : (path : List ℕ) (number : ℕ) → is_object path ≡ true → file_at d path ≡ Some number → e.holds number ≡ d.holds number

-- the same of what is told: both or none
abbrev pub SparesTold : Option Disk → Option Disk → Type 0
SparesTold None None = Unit {0}
SparesTold None (Some e) = ⊥
SparesTold (Some d) None = ⊥
SparesTold (Some d) (Some e) = Spares d e

-- The objects stay as they are, and so they do at each moment that passes
pub record Keeps (old new : Option Disk) (was now : List Moment) : Type 0 where
  pub spares : SparesTold old new
  pub passed : Passes (λ m. SparesTold old (Some m.disk)) was now

-- The files stay as they are, at each moment that passes, until they are the new ones
pub record TurnsAt (old new : Option Disk) (was now : List Moment) : Type 0 where
  pub turn : List Moment
  pub steady : Passes (Stands old) was turn
  pub turned : Passes (Stands new) turn now

-- the object being written: its name, its length, and what its file holds, where that is told
pub record Writing : Type 0 where
  pub name : List ℕ
  pub len : ℕ
  pub bytes : List ℕ

-- what is seen of a store over a folder
pub record Shown : Type 0 where
  pub objects : Option Objects
  pub sound : IfSome objects HaveBytes
  pub writing : Option Writing
  pub history : List Objects
  pub asked : ℕ
  pub faults : ℕ

abbrev pub bytes_code : Coded (List ℕ)
bytes_code = coded_list coded_ℕ

abbrev pub writing_code : Coded Writing
writing_code =
    code_by (List ℕ × (ℕ × List ℕ)) (coded× bytes_code (coded× coded_ℕ bytes_code))
    (λ w. (w.name, (w.len, w.bytes))) (λ p. record { name = p.0; len = p.1.0; bytes = p.1.1 }) (λ _. refl)

-- objects that are told hold bytes
abbrev pub Told : Type 0
Told = (objects : Option Objects) × IfSome objects HaveBytes

abbrev pub told_code : Coded Told
told_code = coded_sub (coded_option (map.code bytes_code bytes_code)) (λ o. IfSome o HaveBytes) have_bytes_once

abbrev pub shown_code : Coded Shown
shown_code =
    code_by (Told × (Option Writing × (List Objects × (ℕ × ℕ))))
    (coded× told_code (coded× (coded_option writing_code) (coded× (coded_list (map.code bytes_code bytes_code)) (coded× coded_ℕ coded_ℕ))))
    (λ s. ((s.objects, s.sound), (s.writing, (s.history, (s.asked, s.faults)))))
    (λ p. record { objects = p.0.0; sound = p.0.1; writing = p.1.0; history = p.1.1.0; asked = p.1.1.1.0; faults = p.1.1.1.1 })
    (λ _. refl)

-- what a file holds, where it is told
abbrev pub held_in : Option Disk → ℕ → List ℕ
held_in None number = []
held_in (Some d) number = d.holds number

abbrev pub shown_in : Option Disk → List ℕ → ℕ → ℕ → Writing
shown_in disk name number len = record { name = name; len = len; bytes = held_in disk number }

abbrev pub draft_in : Option Objects → Writing → Draft
draft_in None w = record { len = w.len; told = None }
draft_in (Some m) w = record { len = length w.bytes; told = Some (w.name, w.bytes) }

abbrev pub draft_of : Shown → Option Draft
draft_of s = option_map (draft_in s.objects) s.writing

told_by : (objects : Option Objects) (writing : Option Writing) →
    IfSome (option_map (draft_in objects) writing) (IsTold objects)
told_by objects None = tt
told_by None (Some w) = record { told = λ told. told; len = tt }
told_by (Some m) (Some w) = record { told = λ _. refl; len = refl }

pub shown_tells : (s : Shown) → IfSome (draft_of s) (IsTold s.objects)
shown_tells s = told_by s.objects s.writing

-- a file that was just made
pub record IsFresh (d : Disk) (path : List ℕ) (number : ℕ) : Type 0 where
  pub stands : file_at d path ≡ Some number
  pub alone : (other : List ℕ) → file_at d other ≡ Some number → other ≡ path
  pub empty : d.holds number ≡ []
