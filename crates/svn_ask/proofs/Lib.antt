-- what is read in several steps
pub mod ReadingLemmas
-- the bytes of a question
pub mod QuestionLemmas
-- tuples of a list, one after the other
pub mod TupleLemmas
-- what is written in the opening
pub mod OpeningLemmas
-- questions that are open, one less
pub mod WindowLemmas
-- what comes of items, one after the other; also for crates that hold a connection
pub mod CourseLemmas
-- what comes of an item, step by step
pub mod TalkLemmas
-- what is heard of bytes, item by item
pub mod HearLemmas
-- answers in the order of the questions
pub mod AnswerLemmas
-- lists of questions over one connection, one after the other
pub mod ConversationLemmas
