pub mod TableReplies
