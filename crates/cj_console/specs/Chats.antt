-- A console's chat: the lines that it takes, and what it writes for each.
use Rattle.std.specs.Prelude.{◌≡◌, ◌≢◌, ◌⊎◌, ℕ, ◌<◌, ◌≤◌, List, [], ◌∷◌, ◌++◌, length, take, codes, All, IsSome}
use Rattle.std.specs.declared.option.Option.{Option}
use Rattle.std.specs.Io.KnownBytes.{Consumes, Appends, IsAtEnd}
use Rattle.cj_outside.specs.Lines.{IsInLine, line_limit}
use Rattle.cj_outside.specs.Streams.{most}
use Rattle.cj_words.specs.LinesInBytes.{IsNextLine, LieIn}
use Rattle.cj_console.specs.Answers.{AnswersLine, Served, Standing}
use Rattle.cj_console.specs.Texts.{answer_text}
use Rattle.cj_console.specs.declared.answer.Answer.{Answer}
use Rattle.cj_console.specs.declared.answer.Answer.TheVariants.{NoCommand}
use Rattle.cj_console.specs.declared.chat.ConsoleEnd.{ConsoleEnd}
use Rattle.cj_console.specs.declared.chat.ConsoleEnd.TheVariants.{Quit, Eof, ReadFault, WriteFault, Spent, NoMemory}

-- the line that ends a chat
abbrev pub quit_line : List ℕ
quit_line = codes "quit"

-- a line that is too long is no command; another gets its answer
abbrev pub GetsAnswer : {D : Type 0} → Served D → List ℕ → Standing D → Standing D → Answer → Type 0
GetsAnswer s line a z answer = ((line_limit < length line) × (z ≡ a) × (answer ≡ NoCommand)) ⊎ ((length line ≤ line_limit) × AnswersLine s line a z answer)

-- the lines get their answers in order, each from where the line before left off; these lines are written for them
abbrev pub Chats : {D : Type 0} → Served D → Standing D → List (List ℕ) → List ℕ → Standing D → Type 0
Chats s a [] written z = (written ≡ []) × (z ≡ a)
Chats {D} s a (line ∷ lines) written z =
    (mid : Standing D) × (answer : Answer) × (rest : List ℕ) × GetsAnswer s line a mid answer × Chats s mid lines rest z × (written ≡ answer_text answer ++ rest)

-- ---- how far a chat came

-- these lines of the bytes taken, none of which ends the chat, got their answers, which were written; the rest got none
pub record Chatted {D : Type 0} (s : Served D) (left left' held held' : Option (List ℕ)) (a : Standing D) (taken : List ℕ) (lines : List (List ℕ)) (rest : List ℕ) (z : Standing D) : Type 0 where
  pub inside : All IsInLine lines
  pub going_on : All (λ line. line ≢ quit_line) lines
  pub consumed : Consumes left left' taken
  pub lie : LieIn left' taken lines rest
  pub written : List ℕ
  pub chats : Chats s a lines written z
  pub appended : Appends held held' written

-- the source was taken to its end, and each line got its answer
pub record ChattedAll {D : Type 0} (s : Served D) (left left' held held' : Option (List ℕ)) (a z : Standing D) : Type 0 where
  pub taken : List ℕ
  pub lines : List (List ℕ)
  pub chatted : Chatted s left left' held held' a taken lines [] z
  pub at_end : IsAtEnd left'
  pub few : IsSome left → length taken < most

-- the lines before the one that ends the chat got their answers, and that one too
pub record ChattedToQuit {D : Type 0} (s : Served D) (left left' held held' : Option (List ℕ)) (a z : Standing D) : Type 0 where
  pub taken : List ℕ
  pub lines : List (List ℕ)
  pub rest : List ℕ
  pub between : Option (List ℕ)
  pub chatted : Chatted s left left' held between a taken lines rest z
  pub next : IsNextLine left' quit_line rest
  pub told : Appends between held' (codes "ok" ++ 10 ∷ [])

-- each whole line got its answer, and so many bytes were taken, if the source tells
pub record ChattedWhole {D : Type 0} (s : Served D) (left left' held held' : Option (List ℕ)) (IsCount : ℕ → Type 0) (a z : Standing D) : Type 0 where
  pub taken : List ℕ
  pub lines : List (List ℕ)
  pub rest : List ℕ
  pub chatted : Chatted s left left' held held' a taken lines rest z
  pub inside : IsInLine rest
  pub count : IsSome left → IsCount (length taken)

-- some lines got their answers, and nothing else was done
pub record ChattedSome {D : Type 0} (s : Served D) (left left' held held' : Option (List ℕ)) (a z : Standing D) : Type 0 where
  pub taken : List ℕ
  pub lines : List (List ℕ)
  pub rest : List ℕ
  pub chatted : Chatted s left left' held held' a taken lines rest z

-- some lines got their answers, and one more was answered, of whose answer a part was written, less than the whole
pub record ChattedInPart {D : Type 0} (s : Served D) (left left' held held' : Option (List ℕ)) (a z : Standing D) : Type 0 where
  pub taken : List ℕ
  pub lines : List (List ℕ)
  pub rest : List ℕ
  pub mid : Standing D
  pub between : Option (List ℕ)
  pub chatted : Chatted s left left' held between a taken lines rest mid
  pub line : List ℕ
  pub inside : IsInLine line
  pub next : IsNextLine left' line rest
  pub answer : Answer
  pub answers : GetsAnswer s line mid z answer
  pub count : ℕ
  pub cut : count < length (answer_text answer)
  pub appended : Appends between held' (take count (answer_text answer))

-- How far a chat came that ended in this way. Of a source or a sink that hides its bytes, this says nothing.
abbrev pub ChatsTo : {D : Type 0} → Served D → (left left' held held' : Option (List ℕ)) → Standing D → ConsoleEnd → Standing D → Type 0
ChatsTo s left left' held held' a Quit z = ChattedToQuit s left left' held held' a z
ChatsTo s left left' held held' a Eof z = ChattedAll s left left' held held' a z
ChatsTo s left left' held held' a ReadFault z = ChattedWhole s left left' held held' (λ n. n < most) a z
ChatsTo s left left' held held' a WriteFault z = ChattedInPart s left left' held held' a z
ChatsTo s left left' held held' a Spent z = ChattedWhole s left left' held held' (λ n. n ≡ most) a z
ChatsTo s left left' held held' a NoMemory z = ChattedSome s left left' held held' a z ⊎ ChattedInPart s left left' held held' a z
